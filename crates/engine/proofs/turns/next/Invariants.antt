-- The loop's invariant: whose turn it was at the start is whose turn it is from here. Assumes nothing.
use mathlib.Core.Path.{◌≡◌}
use Rattle.engine.specs.Turns.{next_turn}
use Rattle.engine.proofs.turns.next.Given as goal

abbrev pub invariant-loop-below : goal.invariant-loop-below
invariant-loop-below l = next_turn l.chart l.h l.image l.depth l.fn.p.0 l.from ≡ next_turn l.chart l.h l.image l.below l.at.0 l.k
