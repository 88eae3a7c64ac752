-- A segment that starts there adds what it weighs. Assumes nothing.
use mathlib.Core.Path.{ap, ◌∙◌}
use Rattle.std.proofs.Common.{rules}
use Rattle.rules.specs.declared.headers.Header.{Header}
use Rattle.bound.proofs.Capping.{kept-start, kept-add, kept-skip, kept-all}
use Rattle.bound.proofs.Starting.{starts-there, starts-not-there}
use Rattle.bound.proofs.whole.edge.Goals as goal
use Rattle.bound.proofs.whole.edge.Goals.{then-eq, else-eq}

pub loop-n-init : goal.loop-n-init
loop-n-init c = kept-start

pub loop-n-preserved : goal.loop-n-preserved
loop-n-preserved c =
    let here = starts-there c.args.chart.now c.loop-n.n c.source.ensures c.args.source in
    let elsewhere = starts-not-there c.args.chart.now c.loop-n.n c.source.ensures c.args.source in
    elim c.if-eq.branch [
      | then-eq w ↦ kept-add c.loop-n.invariant (here (search rules)) w.weight.ensures (w.sum-is ∙ w.plus-sum.ensures)
      | else-eq w ↦ kept-skip c.loop-n.invariant (elsewhere (λ e. search rules)) w.sum-is
    ]

pub returns : goal.returns
returns c = kept-all c.loop-n.invariant c.loop-n.auto.n-end c.loop-n-test.false (ap (λ (h : Header). h.segments) c.header-n-end.ensures)
