-- One item more stands at the start after each turn. Assumes nothing.
use mathlib.Core.Path.{sym, ◌∙◌}
use Rattle.afraulenc.proofs.Committing.{handed-none, handed-more, handed-all}
use Rattle.afraulenc.proofs.parts.hand_on.Goals as goal

pub loop-i-init : goal.loop-i-init
loop-i-init c = sym (handed-none c.args.items.now c.args.trace.now)

pub loop-i-preserved : goal.loop-i-preserved
loop-i-preserved c =
    c.put.ensures
    ∙ rw c.loop-i.invariant (handed-more c.args.items.now c.args.trace.now c.requires c.loop-i.i c.loop-i-test.true)

pub returns : goal.returns
returns c =
    c.loop-i.invariant
    ∙ handed-all c.args.items.now c.args.trace.now c.loop-i.i c.loop-i.auto.i-end c.loop-i-test.false
