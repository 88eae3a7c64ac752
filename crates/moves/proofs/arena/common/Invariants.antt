-- The loop's invariant: the lowest state from the source is the lowest from here. Assumes nothing.
use mathlib.Core.Path.{◌≡◌}
use Prim.Native.Nat.{◌-◌}
use Rattle.rules.specs.Fire.{common, levels}
use Rattle.moves.specs.Steps.{over_all}
use Rattle.moves.proofs.Lowest.{climbed}
use Rattle.moves.proofs.arena.common.Given as goal

abbrev pub invariant-loop : goal.invariant-loop
invariant-loop l = common l.chart l.fn.source.0 l.target.0 l.path ≡ climbed l.chart (over_all l.chart l.target.0 l.path) (levels - l.counter) l.at.0
