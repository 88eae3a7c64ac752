-- The loop's invariant: the sum is that of the states passed. Assumes nothing.
use Rattle.bound.proofs.Capping.{Added}
use Rattle.bound.proofs.Adding.{state_bound}
use Rattle.bound.proofs.whole.bound.Given as goal

abbrev pub invariant-loop-s : goal.invariant-loop-s
invariant-loop-s l = Added (state_bound l.chart) 0 l.s l.sum
