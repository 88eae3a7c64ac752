-- The variables are zero where their bytes are. Assumes nothing.
use Rattle.image.proofs.Zeros.{from-variable}
use Rattle.image.proofs.rest.variables_zero.Goals as goal

pub returns : goal.returns
returns c = from-variable c.args.image.now c.args.from c.zeros_between.ensures
