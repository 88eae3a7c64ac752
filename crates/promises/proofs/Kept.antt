-- A lift that a call has gone for, fresh or a step, and that is kept on that call's chart, after any calls: its image stays
-- accepted, no step on it answers 13, and once started it has demand 3's shape. Assumes nothing.
use mathlib.Core.Path.{◌≡◌, ◌∙◌}
use mathlib.Core.Bool.{true, false}
use mathlib.Core.List.{List, ◌∷◌}
use Prim.Native.Nat.{ℕ}
use native.Mathlib.Omega.{arith}
use Rattle.rules.specs.Bytes.{Bytes}
use Rattle.rules.specs.Chart.{Chart}
use Rattle.rules.specs.Image.{not_started, accepted}
use Rattle.rules.specs.Doing.{because}
use Rattle.rules.specs.Calls.{Board, part, number_only, step_answer, step_call}
use Rattle.rules.proofs.Refusing.{step-refuses}
use Rattle.rules.proofs.Accepting.{started-good}
use Rattle.promises.specs.Many.{Call, Goes, after_call, after_calls, chart_of, IsFor, KeptOn, WellShaped}
use Rattle.promises.proofs.Calling.{Lift, step-ends}
use Rattle.promises.proofs.Numbers.{taken-not-13}
use Rattle.promises.proofs.Lasting.{goes-lifts, calls_last}
use Rattle.promises.proofs.Shaping.{fine-shaped}

not-13 : (c : Chart) (k : ℕ) (board : Board) → Lift c k board → (trace : Bytes) (e allowance : ℕ)
    → (step_call c board trace k e allowance).refusal.number ≡ 13 → ⊥
unfolding number_only because step_answer
not-13 c k board o trace e allowance =
    step-ends c board k e allowance trace (λ a. a.refusal.number ≡ 13 → ⊥)
    (λ r q n. taken-not-13 c board k e allowance o.chart o.taken (q ∙ n))
    (λ b r q n. omega (arith, (step-refuses c e _ r q).0)) (λ b l u n q x. omega arith)

-- first is the call that makes the lift fresh, or any other for it that goes
module _ (first : Call) (later : List Call) (board : Board) (k : ℕ) (for : IsFor k first) (goes : Goes first board)
    (kept : KeptOn (chart_of first) k later (after_call first board)) where
  lift : Lift (chart_of first) k (after_calls (first ∷ later) board)
  lift = calls_last (chart_of first) k later _ kept (goes-lifts first board goes k for)

  -- its image stays accepted
  pub stays-accepted : accepted (part (after_calls (first ∷ later) board) k) (chart_of first) ≡ true
  stays-accepted = lift.taken

  -- once started it has demand 3's shape
  pub stays-shaped : not_started (part (after_calls (first ∷ later) board) k) ≡ false
      → WellShaped (chart_of first) (part (after_calls (first ∷ later) board) k)
  stays-shaped s = let g = started-good (chart_of first) _ lift.taken s in fine-shaped (chart_of first) _ g.root g.fine

  -- no step on it answers 13
  pub never-13 : (trace : Bytes) (e allowance : ℕ)
      → (step_call (chart_of first) (after_calls (first ∷ later) board) trace k e allowance).refusal.number ≡ 13 → ⊥
  never-13 = not-13 (chart_of first) k _ lift
