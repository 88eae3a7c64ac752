-- The loops' invariants: the sum of the states passed, then of all states and the segments passed. Assumes nothing.
use Rattle.rules.specs.Chart.{states}
use Rattle.rules.specs.Lists.{below, sum_over}
use Rattle.bound.proofs.Capping.{Added}
use Rattle.bound.proofs.Adding.{state_moves, segment_moves}
use Rattle.bound.proofs.whole.moves.Given as goal

abbrev pub invariant-loop-n : goal.invariant-loop-n
invariant-loop-n l = Added (state_moves l.chart) 0 l.n l.sum

abbrev pub invariant-loop-n-2 : goal.invariant-loop-n-2
invariant-loop-n-2 l =
    Added (segment_moves l.chart) (sum_over (state_moves l.chart) (below (states l.chart))) l.n l.sum
