-- A test's number is the rules'. Assumes nothing.
use Rattle.blocks.proofs.Arithmetic.{truth-bits}
use Rattle.blocks.proofs.values.truth.Goals as goal

pub returns : goal.returns
returns c = truth-bits c.args.test
