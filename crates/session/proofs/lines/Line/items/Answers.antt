-- Each turn puts one item more. Assumes nothing.
use native.Mathlib.Omega.{arith}
use Rattle.session.proofs.Texts.{no_item, item-next, items-room}
use Rattle.session.proofs.lines.Line.items.Goals as goal

pub loop-i-init : goal.loop-i-init
loop-i-init c = no_item c.args.self.now c.args.trace.now

pub next-requires : goal.next-requires
next-requires c =
    omega (arith, c.requires, items-room c.args.self.now c.args.trace.now c.loop-i.i c.loop-i.invariant, c.loop-i-test.true)

pub loop-i-preserved : goal.loop-i-preserved
loop-i-preserved c =
    item-next c.args.self.now c.args.trace.now c.loop-i.i c.loop-i.invariant (rw c.at.ensures at c.next.ensures)
