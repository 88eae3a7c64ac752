-- The loop's invariant: whether a is in the lineage of s is whether a is on what is left of it from here, which is as far up as
-- there are turns left. Assumes nothing.
use mathlib.Core.Path.{◌≡◌}
use Prim.Native.Nat.{◌-◌}
use Rattle.rules.specs.Lists.{is_in}
use Rattle.rules.specs.Chart.{deepest, lineage}
use Rattle.chart.proofs.tree.over.Given as goal

abbrev pub invariant-loop : goal.invariant-loop
invariant-loop l = is_in l.a.0 (lineage l.chart deepest l.initial.at.0) ≡ is_in l.a.0 (lineage l.chart (deepest - l.counter) l.at.0)
