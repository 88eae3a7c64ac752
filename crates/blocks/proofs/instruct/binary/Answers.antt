-- The two values of the stack are combined: the answer goes onto the rest, or is outside. Assumes nothing.
use mir.Syntax.{w32}
use mir.ValLaws.{to_z-of_z}
use mathlib.Core.Path.{◌∙◌}
use Rattle.blocks.proofs.Instructing.{binary-is, binary-outside}
use borrow.Author.Rules.{rules}
use Rattle.blocks.proofs.instruct.binary.Goals as goal

pub returns-in_err-value : goal.returns-in_err-value
returns-in_err-value c = λ n i.
    binary-outside c.args.op i _ n
    (to_z-of_z w32 c.lower.result (search rules) ∙ c.lower.ensures) (to_z-of_z w32 c.top.result (search rules) ∙ c.top.ensures)
    c.combine.ensures c.ok_or.ensures.ok_part c.in_err-value.was c.ok_or.ensures.value _ _ c.from_residual.ensures.1

pub returns : goal.returns
returns c = λ n i.
    binary-is c.args.op i _ n
    (to_z-of_z w32 c.lower.result (search rules) ∙ c.lower.ensures) (to_z-of_z w32 c.top.result (search rules) ∙ c.top.ensures)
    c.combine.ensures c.ok_or.ensures.ok_part c.in_ok-value.was c.take_off.ensures
    (rw (to_z-of_z w32 c.in_ok-value.value (search rules)) at c.push.ensures)
