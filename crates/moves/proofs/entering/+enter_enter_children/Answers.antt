-- `entering::enter` and `entering::enter_children` meet their contracts. The loop's invariant: what is to do for the children
-- from the start is what is to do for those from here on. The measures: the levels left, twice. Assumes nothing.
use mathlib.Core.Path.{sym}
use Rattle.doing.proofs.Sequels.{refused-ends, went-next}
use Rattle.rules.specs.Doing.{done, give, ◌>>◌}
use Rattle.rules.specs.Fire as rules
use Rattle.doing.proofs.Lent.{same-itself, same-then}
use Rattle.moves.proofs.Follows.{turn-start, turn-done, turn-pass, turn-refused, turn-went}
use Rattle.moves.proofs.Enters.{all_from, none_from, a-child, no-child, enter-some, enter-chosen, enter-each}
use Rattle.moves.proofs.entering.+enter_enter_children.Goals as goal
use Rattle.moves.proofs.entering.+enter_enter_children.Goals.{enter_children-then-eq+in_ok-enter, enter_children-else-eq}

pub enter-returns-then-depth-eq0-clause-came : goal.enter-returns-then-depth-eq0-clause-came
unfolding rules.enter done give
enter-returns-then-depth-eq0-clause-came t c = rw c.if-depth-eq0.true

pub enter-returns-in_err-arrive-clause-came : goal.enter-returns-in_err-arrive-clause-came
unfolding ◌>>◌
enter-returns-in_err-arrive-clause-came t c = rw (enter-some _ _ _ _ _ c.if-depth-eq0.false)
    (refused-ends _ _ c.arrive.ensures.came c.in_err-arrive.was _ _ c.from_residual.ensures.1)

pub enter-returns-clause-came : goal.enter-returns-clause-came
unfolding ◌>>◌
enter-returns-clause-came t c = rw (enter-some _ _ _ _ _ c.if-depth-eq0.false) (went-next _ _ c.arrive.ensures.came c.in_ok-arrive.was c.enter_children.ensures.came)

pub enter_children-returns-then-is_one_of-clause-came : goal.enter_children-returns-then-is_one_of-clause-came
enter_children-returns-then-is_one_of-clause-came t c = enter-chosen _ _ _ _ _ (sym c.if-is_one_of.ensures) c.chosen-k.ensures
    c.enter.ensures.came

pub enter_children-loop-n-init : goal.enter_children-loop-n-init
enter_children-loop-n-init t c = (turn-start (all_from _ _ _ c.header-n-end.ensures), same-itself)

pub enter_children-returns-in_err-enter-clause-came : goal.enter_children-returns-in_err-enter-clause-came
enter_children-returns-in_err-enter-clause-came t c = enter-each _ _ _ _ _ (sym c.if-is_one_of.ensures)
    (turn-refused c.loop-n.invariant.0 (a-child c.args.chart.now _ _ _ c.loop-n-test.true c.parent.ensures (sym c.if-eq.ensures)) _
    c.enter-then-eq.ensures.came c.in_err-enter.was _ _ c.from_residual.ensures.1)

pub enter_children-loop-n-preserved : goal.enter_children-loop-n-preserved
enter_children-loop-n-preserved t c = let chart = c.args.chart.now in
    elim c.if-eq.branch [
      | enter_children-then-eq+in_ok-enter w ↦ (
        turn-went c.loop-n.invariant.0 (a-child chart _ _ _ c.loop-n-test.true c.parent.ensures (sym w.if-eq.ensures)) _
            w.enter-then-eq.ensures.came w.in_ok-enter.was (rw w.now-is),
        rw w.now-is (same-then c.loop-n.invariant.1 w.enter-then-eq.ensures.same),
      )
      | enter_children-else-eq w ↦ (
        turn-pass c.loop-n.invariant.0 (rw (no-child chart _ _ _ c.loop-n-test.true c.parent.ensures (sym w.if-eq.ensures))) (rw w.now-is),
        rw w.now-is c.loop-n.invariant.1,
      )
    ]

pub enter_children-returns-clause-came : goal.enter_children-returns-clause-came
enter_children-returns-clause-came t c = enter-each _ _ _ _ _ (sym c.if-is_one_of.ensures)
    (turn-done c.loop-n.invariant.0 (none_from c.args.chart.now _ _ _ c.loop-n-test.false))
