-- A chart that is not taken refuses, and so does a missing part; else the part is made fresh, for a chart whose variables
-- are as many as fit. Assumes nothing.
use mathlib.Core.Path.{sym}
use native.Mathlib.Omega.{arith}
use Rattle.rules.proofs.Taken.{right, tree}
use Rattle.afraulenc.proofs.Telling.{err-told, not-none, refused-by, taken-by, none-or, some-or}
use Rattle.afraulenc.proofs.Testing.{part-ends, length-lent, fresh-unchecked, fresh-missing, fresh-there}
use Rattle.afraulenc.proofs.made_fresh.Goals as goal

pub returns-in_err-chart : goal.returns-in_err-chart
returns-in_err-chart c =
    rw (err-told (λ _. 0) c.in_err-chart.field-0.0 c.from_residual.result c.from_residual.ensures.1)
    (fresh-unchecked _ _ _ (refused-by c.check.ensures.number c.in_err-chart.was) (not-none c.in_err-chart.field-0.0))

pub returns-in_err-at : goal.returns-in_err-at
returns-in_err-at c =
    let gone = none-or _ _ c.ok_or.ensures.value c.in_err-at.was in
    rw (err-told (λ _. 0) _ c.from_residual-in_err-at.result c.from_residual-in_err-at.ensures.1, ← gone.1)
    (fresh-missing c.args.chart.now c.args.board.now c.args.lift (taken-by c.check.ensures.number c.in_ok-chart.was) c.of_lift.ensures gone.0)

pub overflow_add-at : goal.overflow_add-at
overflow_add-at c =
    let ends = part-ends c.args.board.now c.args.lift c.of_lift.ensures (some-or _ _ c.ok_or.ensures.value c.in_ok-at.was) in
    omega (arith, ends)

pub slice_bounds-make-end : goal.slice_bounds-make-end
slice_bounds-make-end c =
    part-ends c.args.board.now c.args.lift c.of_lift.ensures (some-or _ _ c.ok_or.ensures.value c.in_ok-at.was)

pub make-requires : goal.make-requires
make-requires c =
    let there = some-or _ _ c.ok_or.ensures.value c.in_ok-at.was in
    let taken = taken-by c.check.ensures.number c.in_ok-chart.was in (
      length-lent c.args.board.now c.args.lift c.of_lift.ensures there,
      rw c.in_ok-chart.ensures.whole (tree _ (right c.args.chart.now (sym taken))).most_variables,
    )

pub returns : goal.returns
returns c =
    let there = some-or _ _ c.ok_or.ensures.value c.in_ok-at.was in
    fresh-there c.args.chart.now c.args.board.now c.args.lift (taken-by c.check.ensures.number c.in_ok-chart.was) c.of_lift.ensures
    there (rw c.in_ok-chart.ensures.whole at c.make.ensures)
