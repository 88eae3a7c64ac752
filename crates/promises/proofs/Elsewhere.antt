-- What a call leaves as it was: of the board every byte outside its lift's part, so every other part, and the length; of the
-- trace every byte past the items, and the length. Assumes nothing.
use mathlib.Core.Path.{◌≡◌, refl, ap, ◌∙◌}
use mathlib.Core.List.{List, [], ◌∷◌, ◌++◌}
use Prim.Native.Nat.{ℕ, ◌+◌, ◌-◌, ◌*◌, ◌≤◌}
use native.Mathlib.Omega.{arith}
use lib.ListN.{length, drop, length-append, length-drop}
use lib.Seq.{get_or-append-add, get_or-drop}
use Rattle.rules.specs.Bytes.{Bytes, byte}
use Rattle.rules.specs.Chart.{Chart}
use Rattle.rules.specs.Doing.{Now, went, item_size}
use Rattle.rules.specs.Run.{step as stepping}
use Rattle.rules.specs.Calls.{Board, part, number_only, begin, item_bytes, step_answer, step_call}
use Rattle.rules.proofs.Rooming.{step-rooms}
use Rattle.rules.proofs.ItemBytes.{items-length}
use Rattle.rules.proofs.Boards.{byte-other, part-other, with_part-length}
use Rattle.promises.specs.Many.{Call, Goes, after_call, after_calls, IsFor, LeftAlone, Outside}
use Rattle.promises.proofs.Calling.{step-ends}
use Rattle.promises.proofs.Writing.{Wrote, nothing, image, call-writes}

module _ (x : Call) (board : Board) where
  wrote-length : (goes : Type 0) (board' : Board) → Wrote x board goes board' → length board' ≡ length board
  wrote-length goes board' (nothing none) = refl
  wrote-length goes board' (image g k im w) = with_part-length board im k w.has w.size

  wrote-byte : (goes : Type 0) (board' : Board) → Wrote x board goes board' → (i : ℕ) → ((k : ℕ) → IsFor k x → Outside k i)
      → byte board' i ≡ byte board i
  wrote-byte goes board' (nothing none) i out = refl
  wrote-byte goes board' (image g k im w) i out = byte-other board im k w.has w.size i (out k w.for)

  wrote-part : (goes : Type 0) (board' : Board) → Wrote x board goes board' → (j : ℕ) → (goes → IsFor j x → ⊥)
      → part board' j ≡ part board j
  wrote-part goes board' (nothing none) j apart = refl
  wrote-part goes board' (image g k im w) j apart = part-other board im k w.has w.size j (λ e. apart g (rw e w.for))

  pub same_length : length (after_call x board) ≡ length board
  same_length = wrote-length _ _ (call-writes x board)

  pub other-bytes : (i : ℕ) → ((k : ℕ) → IsFor k x → Outside k i) → byte (after_call x board) i ≡ byte board i
  other-bytes i out = wrote-byte _ _ (call-writes x board) i out

  pub other-part : (j : ℕ) → (Goes x board → IsFor j x → ⊥) → part (after_call x board) j ≡ part board j
  other-part j apart = wrote-part _ _ (call-writes x board) j apart

-- and so over many calls
pub other-part-still : (xs : List Call) (board : Board) (j : ℕ) → LeftAlone j xs board
    → part (after_calls xs board) j ≡ part board j
other-part-still [] board j apart = refl
other-part-still (x ∷ xs) board j apart =
    other-part-still xs (after_call x board) j apart.1 ∙ other-part x board j apart.0

-- the trace
module _ (c : Chart) (board : Board) (trace : Bytes) (k e allowance : ℕ) where
  items-fit : (u : Unit {0}) (n : Now) → stepping c e (begin (part board k) trace allowance) ≡ went u n
      → item_size * length n.trace ≤ length trace
  unfolding begin
  items-fit u n w = omega (arith, step-rooms c e (begin (part board k) trace allowance) u n w)

  pub trace-length : length (step_call c board trace k e allowance).trace ≡ length trace
  unfolding number_only step_answer
  trace-length =
      step-ends c board k e allowance trace (λ a. length a.trace ≡ length trace) (λ r q. refl) (λ b r q. refl)
      (λ b l u n w. rw (length-append, items-length, length-drop) (omega (arith, items-fit u n w)))

  pub trace-rest : (i : ℕ) → item_size * (step_call c board trace k e allowance).items ≤ i
      → byte (step_call c board trace k e allowance).trace i ≡ byte trace i
  unfolding number_only step_answer
  trace-rest i =
      step-ends c board k e allowance trace (λ a. item_size * a.items ≤ i → byte a.trace i ≡ byte trace i)
      (λ r q h. refl) (λ b r q h. refl) (λ b l u n w h. past n.trace h)
    where
      past : (items : List ℕ) → item_size * length items ≤ i
          → byte (item_bytes items ++ drop (item_size * length items) trace) i ≡ byte trace i
      past items h =
          let m : ℕ = item_size * length items in
          let here : i ≡ length (item_bytes items) + (i - m) = omega (arith, items-length items) in
          let there : m + (i - m) ≡ i = omega arith in
          ap (byte (item_bytes items ++ drop m trace)) here ∙ get_or-append-add (item_bytes items) (drop m trace) (i - m) 0
          ∙ get_or-drop m trace (i - m) 0 ∙ ap (byte trace) there
