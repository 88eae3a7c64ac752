-- Of no cells. Assumes nothing.
use mathlib.Core.Path.{refl}
use Rattle.blocks.specs.Stacks.{stack_of}
use Rattle.blocks.proofs.stack.Stack.new.Goals as goal

pub returns : goal.returns
unfolding stack_of
returns c = refl
