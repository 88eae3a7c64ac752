-- The tests of a call, in order: the chart's, the lift's part of the board, then those of the part itself. A step of a part
-- is the step of the board whose part it is. Assumes nothing.
use mathlib.Core.Path.{◌≡◌, refl, sym, ap, ◌∙◌}
use mathlib.Core.Bool.{Bool, true, false, ◌||◌, not}
use mathlib.Core.List.{[], append_assoc, append-nil}
use Prim.Native.Nat.{ℕ, zero, suc, ◌+◌, ◌-◌, ◌*◌, ◌≤◌, ◌<◌}
use native.Mathlib.Nat.{add-zero}
use native.Mathlib.Omega.{arith}
use borrow.Author.Tests.{leb-true, ltb-true, ltb-false, le-leb, lt-leb}
use borrow.Rule.Slice.PartMut.{mid_of, put_mid, Post-is}
use lib.Dec.{leb, ltb}
use lib.ListN.{length, drop, take-append-drop, length-drop, drop_of_length-le}
use lib.Seq.{length-take-le, drop-drop}
use Rattle.std.specs.Prelude.{Option, Some, None}
use Rattle.rules.specs.Bytes.{Bytes}
use Rattle.rules.specs.Lists.{when◌then◌else◌, within, ◌else◌}
use Rattle.rules.specs.Chart.{Chart, events}
use Rattle.rules.specs.Accept.{◌unless◌next◌, chart_refusal}
use Rattle.rules.specs.Image.{Image, image_size, accepted, fresh_image}
use Rattle.rules.specs.Doing.{because, Outcome, refused, went, most_units}
use Rattle.rules.specs.Types.{part_of, part_number}
use Rattle.rules.specs.Calls.{Board, part, with_part, has_part, part_refusal, number_only, unless_refused, fresh_call, step_refusal, step_answer, step_call, Observed, packed, observed}
use Rattle.rules.specs.declared.images.Image.{Image as Placed}
use Rattle.rules.proofs.Laws.{both}
use Rattle.rules.proofs.TypeNumbers.{part-number}
use Rattle.afraulenc.specs.Parts.{stepped_on, part_tests, part_stepped}

-- a range, by the tests of its two ends
pub in-range : (lo hi n : ℕ) (a b : Bool) → ltb n lo ≡ a → ltb hi n ≡ b → within lo hi n ≡ not (a || b)
in-range lo hi n true b p q = let h = ltb-true n lo p in rw (lt-leb lo n h)
in-range lo hi n false true p q = let h = ltb-false n lo p in let k = ltb-true hi n q in rw (le-leb lo n h, lt-leb n hi k)
in-range lo hi n false false p q = let h = ltb-false n lo p in let k = ltb-false hi n q in rw (le-leb lo n h, le-leb n hi k)

-- an event that is in range
pub event-below : (c : Chart) (e : ℕ) → within 1 (events c) e ≡ true → e ≤ events c
event-below c e t = leb-true e (events c) (both (leb 1 e) (leb e (events c)) t).1

-- a number, with all that was lent as it was
number-left : (r : ℕ) (board : Board) (trace : Bytes) → record { answer = r; board = board; trace = trace } ≡ observed (number_only (because r) board trace)
unfolding observed number_only packed because
number-left r board trace = rw (add-zero r, add-zero r)

-- 13 to 15
module _ (c : Chart) (im : Image) (trace : Bytes) (e allowance : ℕ) where
  tested : {r : ℕ} → part_tests c im e allowance ≡ suc r → record { answer = suc r; board = im; trace = trace } ≡ part_stepped c im trace e allowance
  unfolding part_stepped unless_refused
  tested {r} q = rw q (number-left (suc r) im trace)

  pub not-accepted : accepted im c ≡ false → record { answer = 13; board = im; trace = trace } ≡ part_stepped c im trace e allowance
  unfolding part_tests ◌unless◌next◌
  not-accepted a = tested (rw a)

  pub no-event : accepted im c ≡ true → within 1 (events c) e ≡ false
      → record { answer = 14; board = im; trace = trace } ≡ part_stepped c im trace e allowance
  unfolding part_tests ◌unless◌next◌
  no-event a b = tested (rw (a, b))

  pub over-most : accepted im c ≡ true → within 1 (events c) e ≡ true → most_units < allowance
      → record { answer = 15; board = im; trace = trace } ≡ part_stepped c im trace e allowance
  unfolding part_tests ◌unless◌next◌
  over-most a b h = tested (rw (a, b, lt-leb allowance most_units h))

  pub all_tested : accepted im c ≡ true → within 1 (events c) e ≡ true → allowance ≤ most_units
      → {l : Observed} → l ≡ stepped_on c im trace e allowance → l ≡ part_stepped c im trace e allowance
  unfolding part_stepped part_tests stepped_on unless_refused ◌unless◌next◌
  all_tested a b h told = rw (a, b, le-leb allowance most_units h) told

-- where a lift's part is, by what was found
module _ (board : Board) (k : ℕ) {p : Option Placed} (found : p ≡ part_of k (length board)) where
  missing : p ≡ None → part_refusal board k ≡ 12
  unfolding part_number
  missing m = sym (part-number board k) ∙ ap part_number (sym found ∙ m)

  there : {im : Placed} → p ≡ Some im → part_refusal board k ≡ 0
  unfolding part_number
  there a = sym (part-number board k) ∙ ap part_number (sym found ∙ a)

  placed : {im : Placed} (t : Bool) → has_part (length board) k ≡ t → (when t then Some (record { at = image_size * k }) else None) ≡ Some im
      → (im.at ≡ image_size * k) × (image_size * k + image_size ≤ length board)
  unfolding when◌then◌else◌
  placed {im} true has e =
      let q : record { at = image_size * k } ≡ im = cc in
      (sym (ap (λ (x : Placed). x.at) q), leb-true (image_size * k + image_size) (length board) (both (leb k 63) (leb (image_size * k + image_size) (length board)) has).1)
  placed false has e = let z : ◌≡◌ {A = ℕ} 0 1 = cc in absurd (omega arith)

  module _ {im : Placed} (a : p ≡ Some im) where
    located : (im.at ≡ image_size * k) × (image_size * k + image_size ≤ length board)
    located = placed (has_part (length board) k) refl (sym found ∙ a)

    pub part-ends : im.at + image_size ≤ length board
    part-ends = omega (arith, located.0, located.1)

    -- the part as it is lent, and the board as it comes back
    size : im.at + image_size - im.at ≡ image_size
    size = omega arith

    lent : mid_of im.at (im.at + image_size - im.at) board ≡ part board k
    unfolding part
    lent = rw (size, located.0)

    back : (q : Image) → put_mid im.at (im.at + image_size - im.at) board q ≡ with_part board k q
    unfolding with_part
    back q = rw (Post-is im.at (im.at + image_size) board (omega arith), located.0, append_assoc)

    pub length-lent : length (mid_of im.at (im.at + image_size - im.at) board) ≡ image_size
    length-lent = rw size (length-take-le image_size (drop im.at board) (rw length-drop (omega (arith, part-ends))))

-- a step of a part is the step of the board
module _ (board : Board) (k : ℕ) (fits : length (part board k) ≡ image_size) where
  -- the board with what a part's step leaves
  abbrev on_board : Observed → Observed
  on_board l = record { answer = l.answer; board = with_part board k l.board; trace = l.trace }

  same-part : with_part board k (part board k) ≡ board
  unfolding with_part part
  same-part =
      let past : drop image_size (drop (image_size * k) board) ≡ drop (image_size * k + image_size) board = drop-drop image_size (image_size * k) board in
      rw (← past, append_assoc, take-append-drop image_size (drop (image_size * k) board)) (take-append-drop (image_size * k) board)

  whole_part : (im : Image) → with_part (part board k) 0 im ≡ im
  unfolding with_part
  whole_part im = rw (drop_of_length-le (part board k) {i = image_size} (omega arith)) (append-nil im)

  answered : (trace : Bytes) (allowance : ℕ) (o : Outcome (Unit {0}))
      → on_board (observed (step_answer (part board k) trace 0 allowance o)) ≡ observed (step_answer board trace k allowance o)
  unfolding observed packed step_answer number_only
  answered trace allowance (refused r) = rw same-part
  answered trace allowance (went u n) = rw (whole_part n.image)

  stepped : (t : ℕ) (trace : Bytes) (allowance : ℕ) (o : Outcome (Unit {0}))
      → on_board (observed (unless_refused t (part board k) trace (step_answer (part board k) trace 0 allowance o)))
      ≡ observed (unless_refused t board trace (step_answer board trace k allowance o))
  unfolding unless_refused step_answer
  stepped zero trace allowance o = answered trace allowance o
  stepped (suc r) trace allowance o = answered trace allowance (refused (because (suc r)))

-- the first number that is not 0
first : (r rest : ℕ) → (r ≡ 0 → ⊥) → r else rest ≡ r
unfolding ◌else◌
first zero rest wrong = absurd (wrong refl)
first (suc r) rest wrong = refl

-- the whole calls
module _ (c : Chart) (board : Board) (trace : Bytes) (k e allowance : ℕ) where
  step-refused : (r : ℕ) → step_refusal c board k e allowance ≡ r → (r ≡ 0 → ⊥)
      → record { answer = r; board = board; trace = trace } ≡ observed (step_call c board trace k e allowance)
  unfolding step_call unless_refused
  step-refused zero told wrong = absurd (wrong refl)
  step-refused (suc r) told wrong = rw told (number-left (suc r) board trace)

  pub step-unchecked : {r : ℕ} → r ≡ chart_refusal c → (r ≡ 0 → ⊥)
      → record { answer = r; board = board; trace = trace } ≡ observed (step_call c board trace k e allowance)
  unfolding step_refusal
  step-unchecked {r} told wrong = step-refused r (rw (← told) (first r _ wrong)) wrong

  module _ (taken : 0 ≡ chart_refusal c) {p : Option Placed} (found : p ≡ part_of k (length board)) where
    pub step-missing : p ≡ None → record { answer = 12; board = board; trace = trace } ≡ observed (step_call c board trace k e allowance)
    unfolding step_refusal ◌else◌
    step-missing m = step-refused 12 (rw (← taken, missing board k found m)) (λ w. omega arith)

    pub step-there : {im : Placed} (a : p ≡ Some im) {r : ℕ} {q t : Bytes}
        → record { answer = r; board = q; trace = t } ≡ part_stepped c (mid_of im.at (im.at + image_size - im.at) board) trace e allowance
        → record { answer = r; board = put_mid im.at (im.at + image_size - im.at) board q; trace = t } ≡ observed (step_call c board trace k e allowance)
    unfolding step_call step_refusal ◌else◌ part_stepped part_tests
    step-there {im} a {r} {q} {t} told =
        rw (back board k found a q, ← taken, there board k found a)
        (ap (on_board board k fits) (rw (lent board k found a) at told) ∙ stepped board k fits (part_tests c (part board k) e allowance) trace allowance _)
      where
        fits : length (part board k) ≡ image_size
        fits = ap length (sym (lent board k found a)) ∙ length-lent board k found a

module _ (c : Chart) (board : Board) (k : ℕ) where
  fresh-refused : (r : ℕ) → (chart_refusal c else part_refusal board k) ≡ r → (r ≡ 0 → ⊥)
      → record { answer = r; board = board; trace = [] } ≡ observed (fresh_call c board k)
  unfolding fresh_call unless_refused
  fresh-refused zero told wrong = absurd (wrong refl)
  fresh-refused (suc r) told wrong = rw told (number-left (suc r) board [])

  pub fresh-unchecked : {r : ℕ} → r ≡ chart_refusal c → (r ≡ 0 → ⊥)
      → record { answer = r; board = board; trace = [] } ≡ observed (fresh_call c board k)
  fresh-unchecked {r} told wrong = fresh-refused r (rw (← told) (first r _ wrong)) wrong

  module _ (taken : 0 ≡ chart_refusal c) {p : Option Placed} (found : p ≡ part_of k (length board)) where
    pub fresh-missing : p ≡ None → record { answer = 12; board = board; trace = [] } ≡ observed (fresh_call c board k)
    unfolding ◌else◌
    fresh-missing m = fresh-refused 12 (rw (← taken, missing board k found m)) (λ w. omega arith)

    pub fresh-there : {im : Placed} (a : p ≡ Some im) {q : Bytes} → q ≡ fresh_image c
        → record { answer = 0; board = put_mid im.at (im.at + image_size - im.at) board q; trace = [] } ≡ observed (fresh_call c board k)
    unfolding fresh_call unless_refused ◌else◌ observed packed number_only because
    fresh-there a {q} made = rw (back board k found a q, ← taken, there board k found a, made)
