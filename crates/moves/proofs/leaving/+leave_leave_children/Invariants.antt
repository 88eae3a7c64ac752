-- Of the children, the loop's invariant: what is still to leave from here is what was to leave at the start. The measure goes
-- down with the depth, and from the children to a child. Assumes nothing.
use Prim.Native.Nat.{◌+◌, ◌*◌}
use Rattle.rules.specs.Chart.{children_down}
use Rattle.rules.specs.Doing.{when_active}
use Rattle.rules.specs.Fire as rules
use Rattle.doing.specs.Held.{held, Same}
use Rattle.moves.proofs.Follows.{Turn}
use Rattle.moves.proofs.Leaves.{children_below}
use Rattle.moves.proofs.leaving.+leave_leave_children.Given as goal

abbrev pub invariant-leave_children-loop-n : goal.invariant-leave_children-loop-n
invariant-leave_children-loop-n l =
    (Turn (λ i. when_active i (rules.leave l.chart l.depth i)) (children_down l.chart l.s.0) (held l.initial.now)
    (children_below l.chart l.s.0 l.n) (held l.now))
    × Same l.initial.now l.now

abbrev pub decreases-leave : goal.decreases-leave
decreases-leave l = 2 * l.depth

abbrev pub decreases-leave_children : goal.decreases-leave_children
decreases-leave_children l = 2 * l.depth + 1
