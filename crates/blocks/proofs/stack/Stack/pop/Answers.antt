-- The top is the cell at depth 0, and 0 where there is none; one cell less is the stack with one value dropped. Assumes nothing.
use Rattle.blocks.proofs.Stacked.{top-none, top-read, none-dropped, stack-drop}
use borrow.Author.Rules.{rules}
use Rattle.blocks.proofs.stack.Stack.pop.Goals as goal

pub returns-then-self-eq0 : goal.returns-then-self-eq0
returns-then-self-eq0 c =
    rw (← c.self.view_is) (record { value = top-none _ _ c.if-self-eq0.true; rest = none-dropped _ _ c.if-self-eq0.true })

pub returns : goal.returns
returns c =
    rw (← c.self.view_is) (record { value = top-read _ _ (search rules) c.if-self-eq0.false; rest = stack-drop _ 1 _ })
