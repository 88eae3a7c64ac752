-- A refused call has one fixed answer: its number, zero units, items and bound, and every lent byte as before. By the ways in
-- which each call ends. Assumes nothing.
use mathlib.Core.Path.{◌≡◌, refl}
use mathlib.Core.List.{[]}
use Prim.Native.Nat.{ℕ}
use native.Mathlib.Omega.{arith}
use Rattle.rules.specs.Bytes.{Bytes}
use Rattle.rules.specs.Chart.{Chart}
use Rattle.rules.specs.Doing.{Refusal, because}
use Rattle.rules.specs.Calls.{Board, number_only, fresh_call, bound_call, step_answer, step_call, packed}
use Rattle.promises.specs.Many.{Call, Goes, after_call}
use Rattle.promises.proofs.Writing.{Wrote, nothing, image, call-writes}
use Rattle.promises.proofs.Calling.{fresh-ends, step-ends, bound-ends}

pub fresh-refused : (c : Chart) (board : Board) (k : ℕ) → ((fresh_call c board k).refusal.number ≡ 0 → ⊥)
    → fresh_call c board k ≡ number_only (fresh_call c board k).refusal board []
unfolding number_only because
fresh-refused c board k =
    fresh-ends c board k (λ a. (a.refusal.number ≡ 0 → ⊥) → a ≡ number_only a.refusal board []) (λ r d. refl)
    (λ z h d. absurd (d refl))

pub bound-refused : (c : Chart) → ((bound_call c).refusal.number ≡ 0 → ⊥) → bound_call c ≡ number_only (bound_call c).refusal [] []
unfolding number_only because
bound-refused c =
    bound-ends c (λ a. (a.refusal.number ≡ 0 → ⊥) → a ≡ number_only a.refusal [] []) (λ r q d. refl)
    (λ z q d. absurd (d refl))

pub step-refused : (c : Chart) (board : Board) (trace : Bytes) (k e allowance : ℕ)
    → ((step_call c board trace k e allowance).refusal.number ≡ 0 → ⊥)
    → step_call c board trace k e allowance ≡ number_only (step_call c board trace k e allowance).refusal board trace
unfolding number_only because step_answer
step-refused c board trace k e allowance =
    step-ends c board k e allowance trace (λ a. (a.refusal.number ≡ 0 → ⊥) → a ≡ number_only a.refusal board trace)
    (λ r q d. refl) (λ b r q d. refl) (λ b l u n q d. absurd (d refl))

-- and what a host is handed of it is that number
pub refused-packed : (r : Refusal) (board : Board) (trace : Bytes) → packed (number_only r board trace) ≡ r.number
unfolding packed number_only
refused-packed r board trace = omega arith

-- of any call: the board is as it was
pub refused-unchanged : (x : Call) (board : Board) → (Goes x board → ⊥) → after_call x board ≡ board
refused-unchanged x board stops = unwritten _ _ (call-writes x board) stops
  where
    unwritten : (goes : Type 0) (board' : Board) → Wrote x board goes board' → (goes → ⊥) → board' ≡ board
    unwritten goes board' (nothing none) d = refl
    unwritten goes board' (image g k im w) d = absurd (d g)
