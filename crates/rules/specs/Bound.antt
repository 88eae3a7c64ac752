-- The bound of a chart, and refusals 21 to 23. Assumes nothing.
use Rattle.std.specs.Prelude.{Bool, ◌&&◌, ◌||◌, not, List, [], ◌∷◌, ℕ, zero, suc, ◌+◌, eqb, leb}
use Rattle.rules.specs.Lists.{when◌then◌else◌, below, every, any, keep, is_in, sum_over}
use Rattle.rules.specs.Chart.{Junction, Segment, Chart, states, junctions, segments, instructions, entry, during, exit, destination, condition, condition_action, transition_action, instruction, outer, inner, from_junction, ends_on_state}
use Rattle.rules.specs.Accept.{is_send, ◌unless◌next◌}
use Rattle.rules.specs.Doing.{most_units}

module _ (c : Chart) where
  -- W, of the first n segments of each way on
  unfoldable pub WWithin : ℕ → Segment → ℕ
  WWithin zero t = 0
  WWithin (suc n) t =
      1 + (condition c t).count + (condition_action c t).count
      + (when ends_on_state c t then 0 else sum_over (λ u. WWithin n u) (from_junction c (destination c t)))

  -- a way without a loop has at most one segment more than there are junctions
  unfoldable pub W : Segment → ℕ
  W t = WWithin (junctions c + 1) t

  unfoldable pub G : ℕ
  G =
      sum_over (λ s. 2 + (entry c s).count + (exit c s).count) (below (states c))
      + sum_over (λ t. (transition_action c t).count) (below (segments c))

  unfoldable pub bound : ℕ
  bound =
      sum_over (λ s. 1 + (during c s).count + sum_over W (outer c s) + sum_over W (inner c s) + G) (below (states c))

  -- a segment of junction i leads to junction j: the end comes first
  unfoldable pub leads_to : Junction → Junction → Bool
  leads_to j i = any (λ t. not (ends_on_state c t) && eqb (destination c t) j) (from_junction c i)

  -- the junctions that one segment more leads to
  unfoldable pub onward : List Junction → List Junction
  onward is = keep (λ j. any (leads_to j) is) (below (junctions c))

  -- j is reached from is by at most n segments more
  unfoldable pub reaches : Junction → ℕ → List Junction → Bool
  reaches j zero is = is_in j is
  reaches j (suc n) is = is_in j is || reaches j n (onward is)

  -- segments lead from j back to it
  unfoldable pub loops : Junction → Bool
  loops j = reaches j (junctions c) (onward (j ∷ []))

  unfoldable pub bound_refusal : ℕ
  bound_refusal =
      21 unless every (λ i. not (is_send (instruction c i).op)) (below (instructions c)) next
      22 unless every (λ j. not (loops j)) (below (junctions c)) next
      23 unless leb bound most_units next 0
