-- The value below the top is the cell at depth 1, and 0 where there is none. Assumes nothing.
use Rattle.blocks.proofs.Stacked.{lower-none, lower-read}
use borrow.Author.Rules.{rules}
use Rattle.blocks.proofs.stack.Stack.lower.Goals as goal

pub returns-then-self-lt2 : goal.returns-then-self-lt2
returns-then-self-lt2 c = rw (← c.self.view_is) (lower-none _ _ c.if-self-lt2.true)

pub returns : goal.returns
returns c = rw (← c.self.view_is) (lower-read _ _ (search rules) c.if-self-lt2.false)
