-- The loop's invariant: the table is right up to the state at hand. The measure is how many states are left. Assumes nothing.
use Rattle.image.proofs.Counting.{Walk}
use Rattle.image.proofs.shape.Children.counted.Given as goal

abbrev pub invariant-loop-k : goal.invariant-loop-k
invariant-loop-k l = Walk l.image l.chart l.k-end l.k l.children
