-- A unit is paid or not; then the event, and the condition where it is wanted. Assumes nothing.
use mathlib.Core.Path.{◌≡◌, sym}
use mathlib.Core.Logic.{inl, inr}
use mathlib.Core.Bool.{true, false, ◌||◌}
use lib.Dec.{eqb}
use borrow.Author.Tests.{eq-eqb, ne_eqb}
use Rattle.rules.specs.Chart.{event}
use Rattle.rules.proofs.Laws.{or_left, or_right, or_no}
use Rattle.rules.specs.Lists.{when◌then◌else◌}
use Rattle.rules.specs.Doing.{◌>>◌, give}
use Rattle.rules.specs.Search.{passes}
use Rattle.doing.proofs.Sequels.{refused-ends, went-next}
use Rattle.engine.specs.Told.{tested}
use Rattle.engine.proofs.passing.passes.Goals as goal

pub returns-in_err-pay-clause-came : goal.returns-in_err-pay-clause-came
unfolding tested ◌>>◌
returns-in_err-pay-clause-came c = refused-ends _ _ c.pay.ensures.came c.in_err-pay.was _ _ c.from_residual.ensures.1

pub returns-then-wanted-eq0-clause-came : goal.returns-then-wanted-eq0-clause-came
unfolding tested ◌>>◌ passes when◌then◌else◌
returns-then-wanted-eq0-clause-came c =
    let wanted : (eqb (event c.args.chart.now c.args.t.0) 0 || eqb (event c.args.chart.now c.args.t.0) c.args.event) ≡ true =
    rw (sym c.event-wanted.ensures)
    (elim c.then-wanted-eq0.either [
      | inl any ↦ or_left _ _ (eq-eqb _ _ any)
      | inr own ↦ or_right _ _ (eq-eqb _ _ own.1)
    ])
    in
    went-next _ _ c.pay.ensures.came c.in_ok-pay.was (rw wanted c.holds.ensures.came)

pub returns-clause-came : goal.returns-clause-came
unfolding tested ◌>>◌ passes when◌then◌else◌ give
returns-clause-came c =
    let other : (eqb (event c.args.chart.now c.args.t.0) 0 || eqb (event c.args.chart.now c.args.t.0) c.args.event) ≡ false =
    rw (sym c.event-wanted.ensures) (or_no _ _ (ne_eqb _ _ c.if-wanted-eq0.false) (ne_eqb _ _ c.if-wanted-event.false))
    in
    went-next _ _ c.pay.ensures.came c.in_ok-pay.was (rw other)
