-- The loop's invariant: the stack has at most 16 values, and whether the block uses it right is whether the instructions left
-- use it right from this depth on. Assumes nothing.
use mathlib.Core.Path.{ap, ◌∙◌}
use native.Mathlib.Omega.{arith}
use Rattle.rules.specs.Accept.{op_rule}
use Rattle.checker.proofs.Walks.{stack-start, stack-end, stack-few, stack-deep, stack-on}
use Rattle.checker.proofs.blocks.stack_right.Goals as goal

pub loop-i-init : goal.loop-i-init
loop-i-init c = (omega arith, stack-start _ _ _)

pub returns-then-depth-takes : goal.returns-then-depth-takes
returns-then-depth-takes c = let rule = c.rule_of-rule.ensures ∙ ap op_rule c.op_at.ensures in
    stack-few _ _ _ _ _ c.loop-i.invariant.1
    c.loop-i-test.true rule c.if-depth-takes.true

pub returns-then-depth-gt-STACK : goal.returns-then-depth-gt-STACK
returns-then-depth-gt-STACK c = let rule = c.rule_of-rule.ensures ∙ ap op_rule c.op_at.ensures in
    stack-deep _ _ _ _ _ c.loop-i.invariant.1
    c.loop-i-test.true rule c.if-depth-gt-STACK.true

pub loop-i-preserved : goal.loop-i-preserved
loop-i-preserved c = let rule = c.rule_of-rule.ensures ∙ ap op_rule c.op_at.ensures in
    let on = stack-on _ _ _ _ _ c.loop-i.invariant.1
    c.loop-i-test.true rule c.if-depth-takes.false c.if-depth-gt-STACK.false in
    (c.if-depth-gt-STACK.false, on)

pub returns : goal.returns
returns c = rw c.ends_at.ensures (stack-end _ _ _ _ _ c.loop-i.invariant.1 c.loop-i-test.false)
