-- When a lift is started: a step that is not refused leaves it so, and it stays so over any calls until one makes it fresh,
-- whatever their charts. For the root is active after a step. Assumes nothing.
use mathlib.Core.Path.{◌≡◌, refl}
use mathlib.Core.Bool.{false}
use mathlib.Core.List.{List, [], ◌∷◌}
use Prim.Native.Nat.{ℕ}
use native.Mathlib.Decide.{ℕ_discrete}
use Rattle.rules.specs.Bytes.{Bytes}
use Rattle.rules.specs.Chart.{Chart}
use Rattle.rules.specs.Image.{not_started}
use Rattle.rules.specs.Calls.{Board, part}
use Rattle.rules.proofs.Boards.{part_same, part-other}
use Rattle.promises.specs.Many.{Call, step, Goes, IsFor, after_call, after_calls, IsFresh, NotMadeFresh}
use Rattle.promises.proofs.Writing.{one-lift, Wrote, nothing, image, call-writes}

-- a call that goes and is not fresh, for lift k
wrote-starts : (x : Call) (board : Board) (goes : Type 0) (board' : Board) → Wrote x board goes board' → goes → (k : ℕ)
    → IsFor k x → (IsFresh k x → ⊥) → not_started (part board' k) ≡ false
wrote-starts x board goes board' (nothing none) g k f apart = absurd (none g k f)
wrote-starts x board goes board' (image _ j im w) g k f apart =
    let e = one-lift x f w.for in
    rw (e, part_same board im j w.has w.size) (w.started (rw e at apart))

pub step-starts : (c : Chart) (board : Board) (trace : Bytes) (k e allowance : ℕ) → Goes (step c trace k e allowance) board
    → not_started (part (after_call (step c trace k e allowance) board) k) ≡ false
step-starts c board trace k e allowance g =
    wrote-starts _ board _ _ (call-writes (step c trace k e allowance) board) g k refl (λ f. f)

-- any call that goes and does not make lift k fresh, or is refused
wrote-still : (x : Call) (board : Board) (goes : Type 0) (board' : Board) → Wrote x board goes board' → (k : ℕ)
    → (goes → IsFresh k x → ⊥) → not_started (part board k) ≡ false → not_started (part board' k) ≡ false
wrote-still x board goes board' (nothing none) k apart s = s
wrote-still x board goes board' (image g j im w) k apart s =
    elim (ℕ_discrete k j) [
      | yes e ↦ rw (e, part_same board im j w.has w.size) (w.started (rw e at (apart g)))
      | no d ↦ rw (part-other board im j w.has w.size k d) s
    ]

pub stays-started : (xs : List Call) (board : Board) (k : ℕ) → NotMadeFresh k xs board → not_started (part board k) ≡ false
    → not_started (part (after_calls xs board) k) ≡ false
stays-started [] board k apart s = s
stays-started (x ∷ xs) board k apart s =
    stays-started xs (after_call x board) k apart.1 (wrote-still x board _ _ (call-writes x board) k apart.0 s)
