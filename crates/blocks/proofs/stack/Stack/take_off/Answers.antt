-- So many cells fewer are the stack with so many values dropped. Assumes nothing.
use Rattle.blocks.proofs.Stacked.{stack-drop}
use Rattle.blocks.proofs.stack.Stack.take_off.Goals as goal

pub returns : goal.returns
returns c = rw (← c.self.view_is, c.saturating_sub-self-inside.ensures) (stack-drop _ c.args.count _)
