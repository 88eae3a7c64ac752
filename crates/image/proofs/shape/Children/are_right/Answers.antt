-- What the table has at the state is compared as the rules have it. Assumes nothing.
use native.Mathlib.Omega.{arith}
use Rattle.image.proofs.Counting.{shape-tested}
use Rattle.image.proofs.shape.Children.are_right.Goals as goal

pub returns : goal.returns
returns c = shape-tested c.requires c.args.s.0 (omega arith) c.wanted.ensures
