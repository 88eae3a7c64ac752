-- Three answers: not active, one of its children, all of them. Assumes nothing.
use Rattle.rules.specs.Lists.{when◌then◌else◌}
use Rattle.image.proofs.shape.wanted.Goals as goal

pub returns-then-not-is_active : goal.returns-then-not-is_active
unfolding when◌then◌else◌
returns-then-not-is_active c = rw (← c.is_active.ensures, c.if-not-is_active.true)

pub returns-then-is_one_of : goal.returns-then-is_one_of
unfolding when◌then◌else◌
returns-then-is_one_of c = rw (← c.is_active.ensures, c.if-not-is_active.false, ← c.is_one_of.ensures, c.if-is_one_of.true)

pub returns : goal.returns
unfolding when◌then◌else◌
returns c = rw (← c.is_active.ensures, c.if-not-is_active.false, ← c.is_one_of.ensures, c.if-is_one_of.false)
