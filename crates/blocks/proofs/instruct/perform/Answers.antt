-- Each arm does what the rules do for the op that it is told; values are handed on as the machine holds them. Assumes nothing.
use mathlib.Core.Path.{ap, ◌∙◌}
use mir.Syntax.{w16, w32}
use mir.ValLaws.{to_z-of_z}
use Rattle.rules.specs.Bytes.{truth}
use Rattle.blocks.proofs.Instructing.{as-told, pushed, loaded, stored, negated, raised, nothing-done}
use borrow.Author.Rules.{rules}
use Rattle.blocks.proofs.instruct.perform.Goals as goal

pub returns-in-Push-clause-came : goal.returns-in-Push-clause-came
returns-in-Push-clause-came c =
    pushed _ _ _ c.op_at.ensures c.in-Push.is (to_z-of_z w32 c.b_at.result (search rules) ∙ c.b_at.ensures)
    (rw (to_z-of_z w16 c.b_at.result (search rules)) at c.push.ensures)

pub returns-in-Load-clause-came : goal.returns-in-Load-clause-came
returns-in-Load-clause-came c =
    loaded _ _ _ c.op_at.ensures c.in-Load.is (to_z-of_z w32 c.variable.result (search rules) ∙ c.variable.ensures) c.a_at.ensures
    c.push-in-Load.ensures

pub returns-in-Store-clause-came : goal.returns-in-Store-clause-came
returns-in-Store-clause-came c =
    stored _ _ _ c.op_at.ensures c.in-Store.is c.set_variable.ensures.value (to_z-of_z w32 c.pop.result (search rules) ∙ c.pop.ensures.value)
    c.a_at-in-Store.ensures c.pop.ensures.rest

pub returns-in-Add-clause-came : goal.returns-in-Add-clause-came
returns-in-Add-clause-came c = c.binary.ensures _ _ ∙ as-told _ _ _ c.op_at.ensures c.in-Add.is

pub returns-in-Subtract-clause-came : goal.returns-in-Subtract-clause-came
returns-in-Subtract-clause-came c = c.binary-in-Subtract.ensures _ _ ∙ as-told _ _ _ c.op_at.ensures c.in-Subtract.is

pub returns-in-Multiply-clause-came : goal.returns-in-Multiply-clause-came
returns-in-Multiply-clause-came c = c.binary-in-Multiply.ensures _ _ ∙ as-told _ _ _ c.op_at.ensures c.in-Multiply.is

pub returns-in-Quotient-clause-came : goal.returns-in-Quotient-clause-came
returns-in-Quotient-clause-came c = c.binary-in-Quotient.ensures _ _ ∙ as-told _ _ _ c.op_at.ensures c.in-Quotient.is

pub returns-in-Remainder-clause-came : goal.returns-in-Remainder-clause-came
returns-in-Remainder-clause-came c = c.binary-in-Remainder.ensures _ _ ∙ as-told _ _ _ c.op_at.ensures c.in-Remainder.is

pub returns-in-Less-clause-came : goal.returns-in-Less-clause-came
returns-in-Less-clause-came c = c.binary-in-Less.ensures _ _ ∙ as-told _ _ _ c.op_at.ensures c.in-Less.is

pub returns-in-Equal-clause-came : goal.returns-in-Equal-clause-came
returns-in-Equal-clause-came c = c.binary-in-Equal.ensures _ _ ∙ as-told _ _ _ c.op_at.ensures c.in-Equal.is

pub returns-in-Not-clause-came : goal.returns-in-Not-clause-came
returns-in-Not-clause-came c =
    negated _ _ _ c.op_at.ensures c.in-Not.is
    (to_z-of_z w32 c.truth.result (search rules) ∙ c.truth.ensures ∙ ap truth c.is_zero.ensures)
    (to_z-of_z w32 c.pop-top.result (search rules) ∙ c.pop-top.ensures.value) c.pop-top.ensures.rest c.push-in-Not.ensures

pub returns-in-Raise-clause-came : goal.returns-in-Raise-clause-came
returns-in-Raise-clause-came c = raised _ _ _ c.op_at.ensures c.note.result _ c.in-Raise.is c.note.ensures.came c.a_at-in-Raise.ensures

pub returns-in-Send-clause-came : goal.returns-in-Send-clause-came
returns-in-Send-clause-came c = nothing-done _ _ _ c.op_at.ensures c.in-Send.is
