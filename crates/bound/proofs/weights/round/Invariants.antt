-- The loop's invariant: the table has the sums of the segments passed. Assumes nothing.
use Rattle.bound.proofs.Weighing.{Round}
use Rattle.bound.proofs.weights.round.Given as goal

abbrev pub invariant-loop-n : goal.invariant-loop-n
invariant-loop-n l = Round l.chart l.before l.n l.sums
