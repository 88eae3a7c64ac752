-- By 0 there is no remainder; by another it is the library's. Assumes nothing.
use Rattle.blocks.proofs.Arithmetic.{no-remainder, remainder_is}
use mathlib.Core.Path.{◌∙◌}
use mir.Syntax.{w32}
use mir.ValLaws.{to_z-of_z}
use borrow.Author.Rules.{rules}
use Rattle.blocks.proofs.values.remainder.Goals as goal

pub returns-then-y-eq0 : goal.returns-then-y-eq0
returns-then-y-eq0 c = no-remainder c.args.y c.ranges.y c.args.x c.if-y-eq0.true

pub returns : goal.returns
returns c =
    remainder_is c.args.y c.ranges.y c.args.x c.if-y-eq0.false
    (to_z-of_z w32 c.wrapping_rem.result (search rules)
    ∙ (rw (to_z-of_z w32 c.args.x c.ranges.x, to_z-of_z w32 c.args.y c.ranges.y) at c.wrapping_rem.ensures))
