-- One count grows in either case, the other where the child is active. Assumes nothing.
use Rattle.rules.specs.Lists.{when◌then◌else◌}
use Rattle.image.proofs.shape.Children.add.Goals as goal

pub returns-then-is_active : goal.returns-then-is_active
unfolding when◌then◌else◌
returns-then-is_active c = rw c.if-is_active.true

pub returns-else-is_active : goal.returns-else-is_active
unfolding when◌then◌else◌
returns-else-is_active c = rw c.if-is_active.false
