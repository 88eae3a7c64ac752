-- The top is the cell at depth 0, and 0 where there is none. Assumes nothing.
use Rattle.blocks.proofs.Stacked.{top-none, top-read}
use borrow.Author.Rules.{rules}
use Rattle.blocks.proofs.stack.Stack.top.Goals as goal

pub returns-then-self-eq0 : goal.returns-then-self-eq0
returns-then-self-eq0 c = rw (← c.self.view_is) (top-none _ _ c.if-self-eq0.true)

pub returns : goal.returns
returns c = rw (← c.self.view_is) (top-read _ _ (search rules) c.if-self-eq0.false)
