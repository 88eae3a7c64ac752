-- What is handed on: items written as bytes one after the other, and a step on copies by how it went. Assumes nothing.
use mathlib.Core.Path.{◌≡◌, refl, sym, ap, ◌∙◌}
use mathlib.Core.Bool.{true}
use Rattle.std.specs.Prelude.{Result, Ok, Err}
use Rattle.std.specs.Result.{IsErrAnd}
use mathlib.Core.List.{List, [], ◌∷◌, ◌++◌, append_assoc, append-nil}
use Prim.Native.Nat.{ℕ, ◌+◌, ◌-◌, ◌*◌, ◌≤◌, ◌<◌}
use native.Mathlib.Nat.{add-zero, zero-add}
use native.Mathlib.Numerals.{add-one}
use native.Mathlib.Omega.{arith}
use lib.ListN.{length, take, drop, get_or, replicate, length-append, length-drop, drop_of_length-le}
use lib.Seq.{length-take-le, take_all, take-suc, take_at, drop-append-add, drop-drop, sets-eq}
use Rattle.rules.specs.Bytes.{Bytes, bytes_of, put}
use Rattle.rules.specs.Chart.{Chart}
use Rattle.rules.specs.Accept.{chart_refusal}
use Rattle.rules.specs.Image.{Image, image_size, accepted}
use Rattle.rules.specs.Doing.{because, Now, went, item_size, room_of}
use Rattle.rules.specs.Types.{number_of}
use Rattle.rules.specs.declared.refusals.Refusal.{Refusal}
use Rattle.rules.specs.Run.{step}
use Rattle.rules.specs.Calls.{with_part, number_only, begin, item_bytes, step_answer, packed, observed}
use Rattle.rules.proofs.ItemBytes.{items-length}
use Rattle.rules.proofs.Spending.{step-spends}
use Rattle.rules.proofs.Rooming.{step-rooms}
use Rattle.rules.proofs.Stepping.{t-step}
use Rattle.rules.proofs.Taken.{right}
use Rattle.rules.proofs.BeyondCases.{accepted-length}
use Rattle.doing.specs.Held.{now_of}
use Rattle.doing.specs.Outcomes.{outcome_of}
use Rattle.afraulenc.specs.Parts.{packed_of, told_of, stepped_on}
use Rattle.afraulenc.specs.declared.Went.{Went}
use Rattle.afraulenc.proofs.Telling.{err-told}
use Rattle.afraulenc.proofs.Noting.{items-alone, step-notes}

-- items as bytes
items-append : (xs ys : List ℕ) → item_bytes (xs ++ ys) ≡ item_bytes xs ++ item_bytes ys
unfolding item_bytes
items-append [] ys = refl
items-append (x ∷ xs) ys = rw (items-append xs ys) (sym (append_assoc (bytes_of item_size x) (item_bytes xs) (item_bytes ys)))

item-last : (x : ℕ) → item_bytes (x ∷ []) ≡ bytes_of item_size x
unfolding item_bytes
item-last x = append-nil (bytes_of item_size x)

-- a number put at the seam of two lists
put-at-seam : (xs ys : Bytes) (n v : ℕ) → length xs ≡ n → item_size ≤ length ys
    → put item_size (xs ++ ys) n v ≡ xs ++ bytes_of item_size v ++ drop item_size ys
unfolding put bytes_of
put-at-seam xs ys n v e h =
    sets-eq (bytes_of item_size v) (xs ++ ys) n (rw length-append (omega arith))
    ∙ rw (take_at xs ys n e, ← e, drop-append-add xs ys item_size)

-- the first i items at the start of a trace
abbrev pub handed : List ℕ → Bytes → ℕ → Bytes
handed items trace i = item_bytes (take i items) ++ drop (item_size * i) trace

pub handed-none : (items : List ℕ) (trace : Bytes) → handed items trace 0 ≡ trace
unfolding item_bytes
handed-none items trace = refl

module _ (items : List ℕ) (trace : Bytes) (fits : item_size * length items ≤ length trace) (i : ℕ) where
  front : i ≤ length items → length (item_bytes (take i items)) ≡ item_size * i
  front h = items-length (take i items) ∙ rw (length-take-le i items h)

  pub length-handed : i ≤ length items → length (handed items trace i) ≡ length trace
  length-handed h = rw (length-append, length-drop) (omega (arith, front h))

  pub handed-more : i < length items → put item_size (handed items trace i) (item_size * i) (get_or items i 0) ≡ handed items trace (i + 1)
  handed-more h =
      let place : item_size * i + item_size ≡ item_size * (i + 1) = omega arith in
      put-at-seam (item_bytes (take i items)) (drop (item_size * i) trace) (item_size * i) (get_or items i 0) (front (omega arith)) (rw length-drop (omega arith))
      ∙ rw (drop-drop, place, add-one i, take-suc items i 0 h, items-append, item-last, append_assoc)

pub handed-all : (items : List ℕ) (trace : Bytes) (i : ℕ) → i ≤ length items → length items ≤ i
    → handed items trace i ≡ item_bytes items ++ drop (item_size * length items) trace
handed-all items trace i h k =
    let e : i ≡ length items = omega arith in
    rw (e, take_all (length items) items (omega arith))

-- what the step began with: the part's bytes, as many words as there is room for, and no items
pub begun : {part : Bytes} (trace : Bytes) {allowance : ℕ} {image : Image} {n : ℕ} {now : Now} → n ≡ room_of (length trace) → image ≡ part
    → now ≡ now_of image (take n (replicate 256 0)) (record { units = allowance; items = 0 }) → now ≡ begin part trace allowance
unfolding begin
begun trace {n = n} many same e =
    let lent : length {A = ℕ} (take n (replicate 256 0)) ≡ room_of (length trace) = length-take-le n (replicate 256 0) (omega arith) ∙ many in
    let all : length {A = ℕ} (take n (replicate 256 0)) - 0 ≡ room_of (length trace) = omega arith in
    let none : 0 - length {A = ℕ} (take n (replicate 256 0)) ≡ 0 = omega arith in
    e ∙ rw (same, all, none)

-- a step that is refused
pub refused-left : (c : Chart) (part trace : Bytes) (e allowance : ℕ) {r : Result (Unit {0}) Refusal} (n : Now) {n₀ : Now}
    → outcome_of r n ≡ step c e n₀ → n₀ ≡ begin part trace allowance → {why : Refusal} → r ≡ Err why
    → (all : Result Went Refusal) → IsErrAnd all (λ x. x ≡ why)
    → record { answer = told_of packed_of all; board = part; trace = trace } ≡ stepped_on c part trace e allowance
unfolding stepped_on step_answer number_only observed packed because
refused-left c part trace e allowance n says from {why} is all told =
    rw (err-told packed_of why all told, ← from, ← says, is, add-zero (number_of why), add-zero (number_of why))

-- one that went on an accepted lift's part
pub record Ended (c : Chart) (part trace : Bytes) (e allowance : ℕ) (n : Now) : Type 0 where
  pub taken : chart_refusal c ≡ 0
  pub right : accepted part c ≡ true
  pub ends : step c e (begin part trace allowance) ≡ went tt n

pub ended-by : {c : Chart} {part trace : Bytes} {e allowance : ℕ} → chart_refusal c ≡ 0 → accepted part c ≡ true
    → {r : Result (Unit {0}) Refusal} {n n₀ : Now} → outcome_of r n ≡ step c e n₀ → n₀ ≡ begin part trace allowance
    → {u : Unit {0}} → r ≡ Ok u → Ended c part trace e allowance n
ended-by t a says from is = record { taken = t; right = a; ends = rw (← from, ← says, is) }

module _ {c : Chart} {part trace : Bytes} {e allowance : ℕ} {n : Now} (ended : Ended c part trace e allowance n) where
  pub spent : n.units ≤ allowance
  unfolding begin
  spent = (step-spends c e).at (begin part trace allowance) tt n ended.ends

  -- the image is as long as it was
  pub length-part : length part ≡ image_size
  length-part = accepted-length part c ended.right

  pub length-image : length n.image ≡ image_size
  unfolding begin
  length-image =
      let good = (t-step c (right c ended.taken) e).at (begin part trace allowance) ended.right in
      (rw ended.ends at good).0.sound.size

  -- the items, no more than there is room for
  module _ (items : List ℕ) (k : ℕ) (told : n.trace ≡ items ++ replicate k 0) where
    same-items : items ≡ n.trace
    unfolding begin
    same-items = items-alone items k (step-notes c e (begin part trace allowance) tt n ended.ends tt) told

    within : length items ≤ room_of (length trace)
    unfolding begin
    within = let all = step-rooms c e (begin part trace allowance) tt n ended.ends in omega (arith, all, ap length same-items)

    pub items-fit : item_size * length items ≤ length trace
    items-fit = omega (arith, within)

    pub items-most : length items ≤ 256
    items-most = omega (arith, within)

    pub went-left : {u : ℕ} {im b t : Bytes} → u ≡ n.units → im ≡ n.image → b ≡ im
        → t ≡ item_bytes items ++ drop (item_size * length items) trace
        → record { answer = 256 * length items + 131072 * (allowance - u); board = b; trace = t } ≡ stepped_on c part trace e allowance
    unfolding stepped_on step_answer observed packed because with_part
    went-left units image eb et =
        let past : drop image_size part ≡ [] = drop_of_length-le part {i = image_size} (omega (arith, length-part)) in
        rw (eb, et, image, units, same-items, ended.ends, past, append-nil n.image, add-zero, zero-add)
