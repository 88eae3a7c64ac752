-- A condition is empty, or its block's answer is that of all, or the top of the stack that the block leaves. Assumes nothing.
use mathlib.Core.Path.{◌∙◌}
use Rattle.rules.specs.Block.{unless_abandoned}
use Rattle.rules.specs.Doing.{give}
use Rattle.blocks.proofs.Arithmetic.{zero_bits}
use Rattle.engine.proofs.Telling.{ran-refused, ran-next}
use Rattle.engine.proofs.Holding.{top_tested, holds-empty, holds-tested}
use Rattle.engine.proofs.passing.holds.Goals as goal

pub returns-then-condition-eq0-clause-came : goal.returns-then-condition-eq0-clause-came
returns-then-condition-eq0-clause-came c = holds-empty _ _ _ c.condition-condition.ensures _ c.if-condition-eq0.true

pub returns-in_err-run-clause-came : goal.returns-in_err-run-clause-came
returns-in_err-run-clause-came c =
    ran-refused _ _ top_tested (rw c.new-stack.ensures at c.run.ensures.came) c.in_err-run.was _ _ c.from_residual.ensures.1
    ∙ holds-tested _ _ _ c.condition-condition.ensures _ c.if-condition-eq0.false _ c.code.ensures

pub returns-clause-came : goal.returns-clause-came
unfolding unless_abandoned give
returns-clause-came c =
    ran-next _ _ top_tested (rw c.new-stack.ensures at c.run.ensures.came) c.in_ok-run.was
    (rw (zero_bits c.top.result (record { sfits = c.top.type_inv }), c.top.ensures))
    ∙ holds-tested _ _ _ c.condition-condition.ensures _ c.if-condition-eq0.false _ c.code.ensures
