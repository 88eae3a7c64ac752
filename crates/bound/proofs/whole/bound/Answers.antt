-- Each state's part is one more. Assumes nothing.
use mathlib.Core.Path.{refl, ap}
use Rattle.rules.specs.declared.headers.Header.{Header}
use Rattle.bound.proofs.Capping.{added_none, added_more, added-all, from-none, capped-once}
use Rattle.bound.proofs.Adding.{state-part, all-states}
use Rattle.bound.proofs.whole.bound.Goals as goal

pub loop-s-init : goal.loop-s-init
loop-s-init c = added_none refl

pub loop-s-preserved : goal.loop-s-preserved
loop-s-preserved c =
    let small = rw c.bytes.ensures at c.know_bytes.ensures in
    let run = rw c.of_junctions-sums.ensures at c.state.ensures in
    added_more c.loop-s.invariant _
    (capped-once _ (state-part c.args.chart.now small c.loop-s.s c.moves-moves.ensures run)) c.plus-sum.ensures

pub returns : goal.returns
returns c = all-states c.args.chart.now (from-none _ (added-all c.loop-s.invariant c.loop-s.auto.s-end c.loop-s-test.false (ap (λ (h : Header). h.states) c.header-s-end.ensures)))
