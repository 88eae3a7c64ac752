-- Each state's part, and then each segment's, is one more. Assumes nothing.
use mathlib.Core.Path.{refl, ap}
use Rattle.rules.specs.declared.headers.Header.{Header}
use Rattle.bound.specs.Sums.{capped}
use Rattle.bound.proofs.Capping.{added_none, added_more, added-all, from-none}
use Rattle.bound.proofs.Adding.{state-moved, segment-moved, all-moves}
use Rattle.bound.proofs.whole.moves.Goals as goal

pub loop-n-init : goal.loop-n-init
loop-n-init c = added_none refl

pub loop-n-preserved : goal.loop-n-preserved
loop-n-preserved c = added_more c.loop-n.invariant _ (ap capped (state-moved c.args.chart.now c.loop-n.n c.entry-entry.ensures c.exit-exit.ensures)) c.plus-sum.ensures

pub loop-n-2-init : goal.loop-n-2-init
loop-n-2-init c = added_none (from-none _ (added-all c.loop-n.invariant c.loop-n.auto.n-end c.loop-n-test.false (ap (λ (h : Header). h.states) c.header-n-end.ensures)))

pub loop-n-2-preserved : goal.loop-n-2-preserved
loop-n-2-preserved c = added_more c.loop-n-2.invariant _ (ap capped (segment-moved c.args.chart.now c.loop-n-2.n c.transition_action-acted.ensures)) c.plus-sum-in-loop-n-2.ensures

pub returns : goal.returns
returns c = all-moves c.args.chart.now (added-all c.loop-n-2.invariant c.loop-n-2.auto.n-end c.loop-n-2-test.false (ap (λ (h : Header). h.segments) c.header-n-end-2.ensures))
