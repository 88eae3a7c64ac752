-- Units: where the chart has a bound it is enough and no step takes more; and more units change no step that had enough. Assumes
-- nothing.
use mathlib.Core.Path.{◌≡◌, refl}
use mathlib.Core.Logic.{inl, inr}
use Prim.Native.Nat.{ℕ, zero, suc, ◌+◌, ◌-◌, ◌≤◌}
use native.Mathlib.Omega.{arith}
use borrow.Author.Tests.{le-leb}
use Rattle.rules.specs.Bytes.{Bytes}
use Rattle.rules.specs.Chart.{Chart}
use Rattle.rules.specs.Doing.{because, Outcome, refused, went, most_units}
use Rattle.rules.specs.Run.{step}
use Rattle.rules.specs.Bound.{bound_refusal, bound}
use Rattle.rules.specs.Calls.{Board, Answer, part, number_only, unless_refused, bound_call, step_refusal, begin, step_answer, step_call}
use Rattle.rules.proofs.Taken.{right}
use Rattle.rules.proofs.Steady.{Same, steady-step}
use Rattle.rules.proofs.Bounded.{Bounded, bounded}
use Rattle.promises.proofs.Calling.{Lift, ending, step-ends, bound-ends}
use Rattle.promises.proofs.Numbers.{tests-most}

-- what the bound call answers
given : (c : Chart) → (bound_call c).refusal.number ≡ 0 → (bound_refusal c ≡ 0) × ((bound_call c).bound ≡ bound c)
unfolding number_only because
given c =
    bound-ends c (λ a. a.refusal.number ≡ 0 → (bound_refusal c ≡ 0) × (a.bound ≡ bound c)) (λ r q e. absurd (omega arith))
    (λ z q e. (q, refl))

module _ (c : Chart) (gives : (bound_call c).refusal.number ≡ 0) (board : Board) (trace : Bytes) (k e allowance : ℕ) where
  has : Lift c k board → Bounded c
  has b = bounded c (right c b.chart) (given c gives).0

  -- the bound is enough
  pub bound-suffices : (bound_call c).bound ≤ allowance → (step_call c board trace k e allowance).refusal.number ≡ 16 → ⊥
  unfolding number_only because step_answer
  bound-suffices l =
      step-ends c board k e allowance trace (λ a. a.refusal.number ≡ 16 → ⊥)
      (λ r q n. omega (arith, tests-most c board k e allowance))
      (λ b r q. ending c board trace k e allowance b (refused r) q (has b) (omega (arith, (given c gives).1)))
      (λ b l u n q z. omega arith)

  -- and no step takes more
  pub units-within : (step_call c board trace k e allowance).units ≤ (bound_call c).bound
  unfolding number_only step_answer
  units-within =
      step-ends c board k e allowance trace (λ a. a.units ≤ (bound_call c).bound) (λ r q. omega arith) (λ b r q. omega arith)
      (λ b l u n q. omega (arith, (given c gives).1, (ending c board trace k e allowance b (went u n) q).1 (has b)))

-- more units change nothing
module _ (c : Chart) (board : Board) (trace : Bytes) (k e allowance extra : ℕ) where
  same_tests : allowance + extra ≤ most_units → step_refusal c board k e (allowance + extra) ≡ step_refusal c board k e allowance
  unfolding step_refusal
  same_tests l = rw (le-leb (allowance + extra) most_units l, le-leb allowance most_units (omega arith))

  same_answer : (o o' : Outcome (Unit {0})) → Same extra o o' → ((step_answer board trace k allowance o).refusal.number ≡ 16 → ⊥)
      → step_answer board trace k (allowance + extra) o' ≡ step_answer board trace k allowance o
  unfolding step_answer number_only
  same_answer (refused r) o' (inl q) d = absurd (d q)
  same_answer (refused r) o' (inr q) d = rw q
  same_answer (went u n) o' q d =
      let z : allowance + extra - (n.units + extra) ≡ allowance - n.units = omega arith in
      rw (q, z)

  -- how the step goes that is allowed u units
  abbrev stepped : ℕ → Outcome (Unit {0})
  stepped u = step c e (begin (part board k) trace u)

  abbrev answered : ℕ → ℕ → Answer
  answered r u = unless_refused r board trace (step_answer board trace k u (stepped u))

  same-answered : (r : ℕ) → ((answered r allowance).refusal.number ≡ 16 → ⊥) → answered r (allowance + extra) ≡ answered r allowance
  unfolding unless_refused begin
  same-answered zero d =
      same_answer (stepped allowance) (stepped (allowance + extra)) ((steady-step c e).at extra (begin (part board k) trace allowance)) d
  same-answered (suc r) d = refl

  pub more-units : allowance + extra ≤ most_units → ((step_call c board trace k e allowance).refusal.number ≡ 16 → ⊥)
      → step_call c board trace k e (allowance + extra) ≡ step_call c board trace k e allowance
  unfolding step_call
  more-units l d = rw (same_tests l) (same-answered (step_refusal c board k e allowance) d)
