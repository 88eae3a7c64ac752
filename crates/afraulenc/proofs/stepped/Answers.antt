-- A chart that is not taken refuses, and so does a missing part; else the part's step is the board's. Assumes nothing.
use native.Mathlib.Omega.{arith}
use Rattle.afraulenc.specs.Parts.{packed_of}
use Rattle.afraulenc.proofs.Telling.{err-told, not-none, refused-by, taken-by, none-or, some-or}
use Rattle.afraulenc.proofs.Testing.{part-ends, step-unchecked, step-missing, step-there}
use Rattle.afraulenc.proofs.stepped.Goals as goal

pub returns-in_err-chart : goal.returns-in_err-chart
returns-in_err-chart c =
    rw (err-told packed_of c.in_err-chart.field-0.0 c.from_residual.result c.from_residual.ensures.1)
    (step-unchecked _ _ _ _ _ _ (refused-by c.check.ensures.number c.in_err-chart.was) (not-none c.in_err-chart.field-0.0))

pub returns-in_err-at : goal.returns-in_err-at
returns-in_err-at c =
    let gone = none-or _ _ c.ok_or.ensures.value c.in_err-at.was in
    rw (err-told packed_of _ c.from_residual-in_err-at.result c.from_residual-in_err-at.ensures.1, ← gone.1)
    (step-missing c.args.chart.now c.args.board.now c.args.trace.now c.args.lift c.args.event c.args.allowance
    (taken-by c.check.ensures.number c.in_ok-chart.was) c.of_lift.ensures gone.0)

pub overflow_add-at : goal.overflow_add-at
overflow_add-at c =
    let ends = part-ends c.args.board.now c.args.lift c.of_lift.ensures (some-or _ _ c.ok_or.ensures.value c.in_ok-at.was) in
    omega (arith, ends)

pub slice_bounds-step_part-end : goal.slice_bounds-step_part-end
slice_bounds-step_part-end c =
    part-ends c.args.board.now c.args.lift c.of_lift.ensures (some-or _ _ c.ok_or.ensures.value c.in_ok-at.was)

pub returns : goal.returns
returns c =
    let there = some-or _ _ c.ok_or.ensures.value c.in_ok-at.was in
    step-there c.args.chart.now c.args.board.now c.args.trace.now c.args.lift c.args.event c.args.allowance
    (taken-by c.check.ensures.number c.in_ok-chart.was) c.of_lift.ensures there (rw c.in_ok-chart.ensures.whole at c.step_part.ensures)
