-- The loop's invariant: the first active child from the start on is the first from here on. Assumes nothing.
use mathlib.Core.Path.{◌≡◌}
use Rattle.engine.proofs.Turning.{first_in}
use Rattle.engine.proofs.turns.active_child.Given as goal

abbrev pub invariant-loop-k : goal.invariant-loop-k
invariant-loop-k l = first_in l.chart l.image l.p.0 l.from l.k-end ≡ first_in l.chart l.image l.p.0 l.k l.k-end
