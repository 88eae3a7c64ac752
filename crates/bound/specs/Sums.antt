-- Sums that stop above the limit, the sums of W over the segments of each junction, and the bound's answer. Assumes nothing.
use Rattle.std.specs.Prelude.{List, map, ℕ, zero, suc, ◌+◌, min, get_or, Result, Ok, Err}
use Rattle.rules.specs.Lists.{when◌then◌else◌, below, keep, sum_over}
use Rattle.rules.specs.Chart.{State, Segment, Chart, segments, condition, condition_action, during, destination, ends_on_state, starts_at, from_junction}
use Rattle.rules.specs.Doing.{Refusal, because, most_units}
use Rattle.rules.specs.Bound.{WWithin, bound, bound_refusal}
use Rattle.rules.specs.declared.refusals.Refusal.{Refusal as CodeRefusal}
use Rattle.doing.specs.Outcomes.{refusal_of}

-- a sum that stops above the largest bound
abbrev pub capped : ℕ → ℕ
capped n = min n (most_units + 1)

-- an item for each number that a junction can have
unfoldable pub table : {A : Type 0} → (ℕ → A) → List A
table f = map f (below 256)

module _ (c : Chart) where
  -- a segment's own, and the sum of the junction that it leads to
  unfoldable pub weight_on : List ℕ → Segment → ℕ
  weight_on sums t =
      1 + (condition c t).count + (condition_action c t).count + (when ends_on_state c t then 0 else get_or sums (destination c t) 0)

  unfoldable pub round_of : List ℕ → List ℕ
  round_of sums = table (λ j. capped (sum_over (weight_on sums) (from_junction c j)))

  -- for each junction the sum of W of the first n segments of each way on
  unfoldable pub weights_within : ℕ → List ℕ
  weights_within n = table (λ j. capped (sum_over (λ u. WWithin c n u) (from_junction c j)))

  -- a state's own run
  unfoldable pub state_run : List ℕ → State → ℕ
  state_run sums s =
      1 + (during c s).count + sum_over (weight_on sums) (keep (starts_at c 0 s) (below (segments c)))
      + sum_over (weight_on sums) (keep (starts_at c 1 s) (below (segments c)))

-- the bound's answer: a refusal, or 0 and the bound
pub record BoundAnswer : Type 0 where
  pub refusal : Refusal
  pub bound : ℕ

abbrev pub bounded_of : Result ℕ CodeRefusal → BoundAnswer
bounded_of (Err r) = record { refusal = refusal_of r; bound = 0 }
bounded_of (Ok n) = record { refusal = because 0; bound = n }

-- by what its tests gave
unfoldable pub bound_told : ℕ → ℕ → BoundAnswer
bound_told zero n = record { refusal = because 0; bound = n }
bound_told (suc r) n = record { refusal = because (suc r); bound = 0 }

unfoldable pub bound_answer : Chart → BoundAnswer
bound_answer c = bound_told (bound_refusal c) (bound c)
