-- A value is 0 where its bits are. Assumes nothing.
use Rattle.blocks.proofs.Arithmetic.{zero_bits}
use Rattle.blocks.proofs.values.is_zero.Goals as goal

pub returns : goal.returns
returns c = zero_bits c.args.x c.ranges.x
