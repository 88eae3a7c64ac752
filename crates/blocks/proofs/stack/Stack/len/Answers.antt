-- As many as cells are taken. Assumes nothing.
use mathlib.Core.Path.{sym}
use Rattle.blocks.proofs.Stacked.{stack-length}
use Rattle.blocks.proofs.stack.Stack.len.Goals as goal

pub returns : goal.returns
returns c = rw (← c.self.view_is) (sym (stack-length _ _))
