-- The loop's invariant: the sum is that of the segments passed that start there. Assumes nothing.
use Rattle.rules.specs.Chart.{starts_at}
use Rattle.chart.specs.Read.{kind_of, number_of}
use Rattle.bound.specs.Sums.{weight_on}
use Rattle.bound.proofs.Capping.{Kept}
use Rattle.bound.proofs.whole.edge.Given as goal

abbrev pub invariant-loop-n : goal.invariant-loop-n
invariant-loop-n l =
    Kept (weight_on l.chart l.sums) (starts_at l.chart (kind_of l.source) (number_of l.source)) l.n l.sum
