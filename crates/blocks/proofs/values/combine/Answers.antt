-- Each arm calls what the op's definition names, on operands that fit and so are handed on as they are. Assumes nothing.
use Rattle.blocks.proofs.Arithmetic.{as-within, quotient_is, combined-as, equal-bits}
use Rattle.rules.specs.Bytes.{truth}
use Rattle.blocks.specs.Values.{combined}
use Rattle.blocks.specs.declared.values.Binary.TheVariants.{Add, Subtract, Multiply, Quotient, Remainder, Less}
use Rattle.std.specs.Prelude.{Some}
use mir.Syntax.{w32}
use mir.ValLaws.{to_z-of_z}
use mathlib.Core.Path.{ap, ◌∙◌}
use borrow.Author.Rules.{rules}
use Rattle.blocks.proofs.values.combine.Goals as goal

pub returns-in-Add : goal.returns-in-Add
unfolding combined
returns-in-Add c = as-within _ _ c.checked_add.ensures ∙ combined-as c.args.op Add _ _ c.ranges.x c.ranges.y c.in-Add.is

pub returns-in-Subtract : goal.returns-in-Subtract
unfolding combined
returns-in-Subtract c = as-within _ _ c.checked_sub.ensures ∙ combined-as c.args.op Subtract _ _ c.ranges.x c.ranges.y c.in-Subtract.is

pub returns-in-Multiply : goal.returns-in-Multiply
unfolding combined
returns-in-Multiply c = as-within _ _ c.checked_mul.ensures ∙ combined-as c.args.op Multiply _ _ c.ranges.x c.ranges.y c.in-Multiply.is

pub returns-in-Quotient : goal.returns-in-Quotient
unfolding combined
returns-in-Quotient c =
    quotient_is _ (rw (to_z-of_z w32 c.args.y c.ranges.y) c.ranges.y) _ _ c.checked_div.ensures
    ∙ combined-as c.args.op Quotient _ _ c.ranges.x c.ranges.y c.in-Quotient.is

pub returns-in-Remainder : goal.returns-in-Remainder
unfolding combined
returns-in-Remainder c = c.remainder.ensures ∙ combined-as c.args.op Remainder _ _ c.ranges.x c.ranges.y c.in-Remainder.is

pub returns-in-Less : goal.returns-in-Less
unfolding combined
returns-in-Less c =
    ap Some (to_z-of_z w32 c.truth.result (search rules) ∙ c.truth.ensures)
    ∙ combined-as c.args.op Less _ _ c.ranges.x c.ranges.y c.in-Less.is

pub returns-in-Equal : goal.returns-in-Equal
unfolding combined
returns-in-Equal c =
    rw c.in-Equal.is
    (ap Some (to_z-of_z w32 c.truth-in-Equal.result (search rules) ∙ c.truth-in-Equal.ensures
    ∙ ap truth (equal-bits c.args.x c.args.y c.ranges.x c.ranges.y)))
