-- The total by the header is the chart's. Assumes nothing.
use mathlib.Core.Path.{◌≡◌, ap, ◌∙◌}
use Rattle.rules.specs.Chart.{total}
use Rattle.rules.specs.declared.headers.Header.{Header}
use Rattle.chart.specs.Places.{instruction_place}
use Rattle.chart.proofs.Own.{own-total}
use Rattle.checker.proofs.length_right.Goals as goal

pub returns : goal.returns
returns c = let whole : c.total.result ≡ total c.args.chart.now =
    c.total.ensures ∙ ap (λ (x : Header). instruction_place x x.instructions) c.header.ensures ∙ own-total c.args.chart.now in
    rw (whole, c.bytes.ensures)
