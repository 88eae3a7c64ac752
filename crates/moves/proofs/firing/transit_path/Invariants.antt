-- `firing::transit_path` meets its contract. The loop's invariant: what is to do for the whole path is what is to do for what
-- is left of it. Assumes nothing.
use lib.ListN.{drop}
use Rattle.rules.specs.Fire.{transit}
use Rattle.doing.specs.Held.{held, Same}
use Rattle.moves.proofs.Follows.{Turn}
use Rattle.moves.proofs.firing.transit_path.Given as goal

abbrev pub invariant-loop-t : goal.invariant-loop-t
invariant-loop-t l =
    (Turn (transit l.chart) l.path (held l.initial.now) (drop l.t-index l.path) (held l.now))
    × Same l.initial.now l.now
