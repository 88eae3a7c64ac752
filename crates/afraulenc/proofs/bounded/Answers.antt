-- The chart's refusal, else the bound's own answer. Assumes nothing.
use Prim.Native.Nat.{◌*◌}
use Rattle.afraulenc.proofs.Telling.{err-told, not-none, refused-by, taken-by}
use Rattle.afraulenc.proofs.Bounding.{bound-unchecked, bound-told}
use Rattle.afraulenc.proofs.bounded.Goals as goal

pub returns-in_err-chart : goal.returns-in_err-chart
returns-in_err-chart c =
    rw (err-told (λ n. 256 * n) c.in_err-chart.field-0.0 c.from_residual.result c.from_residual.ensures.1)
    (bound-unchecked c.args.chart.now (refused-by c.check.ensures.number c.in_err-chart.was) (not-none c.in_err-chart.field-0.0))

pub returns : goal.returns
returns c =
    bound-told c.args.chart.now (taken-by c.check.ensures.number c.in_ok-chart.was) c.bound.result
    (rw c.in_ok-chart.ensures.whole at c.bound.ensures)
