-- A cell set above those taken leaves them; where none is left the stack stays. Assumes nothing.
use Rattle.blocks.proofs.Stacked.{pushed, full}
use mir.Syntax.{w32}
use mir.ValLaws.{to_z-of_z}
use borrow.Author.Rules.{rules}
use Rattle.blocks.proofs.stack.Stack.push.Goals as goal

pub returns-then-at-lt-CELLS : goal.returns-then-at-lt-CELLS
returns-then-at-lt-CELLS c =
    rw (← c.self.view_is, to_z-of_z w32 c.args.value c.ranges.value) (pushed _ _ c.args.value (search rules) c.if-at-lt-CELLS.true)

pub returns-else-at-lt-CELLS : goal.returns-else-at-lt-CELLS
returns-else-at-lt-CELLS c = rw (← c.self.view_is) (full _ _ c.args.value c.if-at-lt-CELLS.false)
