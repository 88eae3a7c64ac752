-- The loop's invariant: the sums go as many segments far as there were rounds. Assumes nothing.
use Rattle.bound.proofs.Weighing.{Rounds}
use Rattle.bound.proofs.weights.of_junctions.Given as goal

abbrev pub invariant-loop : goal.invariant-loop
invariant-loop l = Rounds l.chart l.counter l.sums
