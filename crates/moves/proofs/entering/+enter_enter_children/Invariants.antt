-- `entering::enter` and `entering::enter_children` meet their contracts. The loop's invariant: what is to do for the children
-- from the start is what is to do for those from here on. The measures: the levels left, twice. Assumes nothing.
use Prim.Native.Nat.{◌+◌, ◌*◌}
use Rattle.rules.specs.Chart.{children}
use Rattle.rules.specs.Fire as rules
use Rattle.doing.specs.Held.{held, Same}
use Rattle.moves.proofs.Follows.{Turn}
use Rattle.moves.proofs.Enters.{children_from}
use Rattle.moves.proofs.entering.+enter_enter_children.Given as goal

abbrev pub invariant-enter_children-loop-n : goal.invariant-enter_children-loop-n
invariant-enter_children-loop-n l =
    (Turn (rules.enter l.chart l.depth l.target.0) (children l.chart l.s.0) (held l.initial.now)
    (children_from l.chart l.s.0 l.n l.n-end) (held l.now))
    × Same l.initial.now l.now

abbrev pub decreases-enter : goal.decreases-enter
decreases-enter l = 2 * l.depth

abbrev pub decreases-enter_children : goal.decreases-enter_children
decreases-enter_children l = 2 * l.depth + 1
