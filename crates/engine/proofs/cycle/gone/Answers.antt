-- The owner's bit of the image, by the rules. Assumes nothing.
use Rattle.rules.specs.Block.{gone}
use Rattle.engine.proofs.cycle.gone.Goals as goal

pub returns : goal.returns
unfolding gone
returns c = rw c.is_active.ensures
