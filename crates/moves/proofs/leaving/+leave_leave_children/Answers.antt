-- Of the children, the loop's invariant: what is still to leave from here is what was to leave at the start. The measure goes
-- down with the depth, and from the children to a child. Assumes nothing.
use mathlib.Core.Path.{refl, sym}
use Rattle.doing.proofs.Sequels.{refused-ends, went-next}
use Rattle.rules.specs.Doing.{done, give, ◌>>◌}
use Rattle.rules.specs.Fire.{leave_each, leave as leave-by}
use Rattle.rules.proofs.Laws.{both}
use Rattle.doing.proofs.Lent.{same-itself, same-then}
use Rattle.moves.proofs.Follows.{turn-start, turn-done, turn-pass, turn-refused, turn-went}
use Rattle.moves.proofs.Leaves.{leave-some, when-active, all-below, none_below, a-child, passed_over}
use Rattle.moves.proofs.leaving.+leave_leave_children.Goals as goal

pub leave-returns-then-depth-eq0-clause-came : goal.leave-returns-then-depth-eq0-clause-came
unfolding leave-by done give
leave-returns-then-depth-eq0-clause-came t c = rw c.if-depth-eq0.true

pub leave-returns-in_err-pay-clause-came : goal.leave-returns-in_err-pay-clause-came
unfolding ◌>>◌
leave-returns-in_err-pay-clause-came t c = rw (leave-some _ _ _ _ c.if-depth-eq0.false)
    (refused-ends _ _ c.pay.ensures.came c.in_err-pay.was _ _ c.from_residual.ensures.1)

pub leave-returns-in_err-leave_children-clause-came : goal.leave-returns-in_err-leave_children-clause-came
unfolding ◌>>◌
leave-returns-in_err-leave_children-clause-came t c = rw (leave-some _ _ _ _ c.if-depth-eq0.false) (went-next _ _ c.pay.ensures.came c.in_ok-pay.was
    (refused-ends _ _ c.leave_children.ensures.came c.in_err-leave_children.was _ _ c.from_residual-in_err-leave_children.ensures.1))

pub leave-returns-clause-came : goal.leave-returns-clause-came
unfolding ◌>>◌
leave-returns-clause-came t c = rw (leave-some _ _ _ _ c.if-depth-eq0.false) (went-next _ _ c.pay.ensures.came c.in_ok-pay.was
    (went-next _ _ c.leave_children.ensures.came c.in_ok-leave_children.was c.depart.ensures.came))

pub leave_children-loop-n-init : goal.leave_children-loop-n-init
leave_children-loop-n-init t c = (turn-start (all-below _ _ _ c.header-n.ensures), same-itself)

pub leave_children-returns-in_err-leave-clause-came : goal.leave_children-returns-in_err-leave-clause-came
unfolding leave_each
leave_children-returns-in_err-leave-clause-came t c = let is = both _ _ (sym (rw c.image.ensures at c.if-is_active_child.ensures)) in
    turn-refused c.loop-n.invariant.0 (a-child c.args.chart.now _ _ c.loop-n-test.true is.0) _ (when-active _ _ _ is.1 c.leave.ensures.came)
    c.in_err-leave.was _ _ c.from_residual.ensures.1

pub leave_children-loop-n-preserved-in-Continue-1 : goal.leave_children-loop-n-preserved-in-Continue-1
leave_children-loop-n-preserved-in-Continue-1 t c = let is = both _ _ (sym (rw c.image.ensures at c.if-is_active_child.ensures)) in (
  turn-went c.loop-n.invariant.0 (a-child c.args.chart.now _ _ c.loop-n-test.true is.0) _ (when-active _ _ _ is.1 c.leave.ensures.came)
      c.in_ok-leave.was refl,
  same-then c.loop-n.invariant.1 c.leave.ensures.same,
)

pub leave_children-loop-n-preserved : goal.leave_children-loop-n-preserved
leave_children-loop-n-preserved t c = (
  turn-pass c.loop-n.invariant.0
      (passed_over c.args.chart.now _ _ c.loop-n-test.true _ _ (sym (rw c.image.ensures at c.if-is_active_child.ensures))) refl,
  c.loop-n.invariant.1,
)

pub leave_children-returns-clause-came : goal.leave_children-returns-clause-came
unfolding leave_each
leave_children-returns-clause-came t c = turn-done c.loop-n.invariant.0 (none_below c.args.chart.now _ _ c.loop-n-test.false)
