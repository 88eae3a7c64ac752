-- `Image::of_lift` makes the definition's two tests, in order. Assumes nothing.
use borrow.Author.Tests.{le-leb, lt-leb}
use Rattle.rules.specs.Lists.{when◌then◌else◌}
use Rattle.rules.proofs.images.Image.of_lift.Goals as goal

pub returns-then-lift-gt-LAST_LIFT : goal.returns-then-lift-gt-LAST_LIFT
unfolding when◌then◌else◌
returns-then-lift-gt-LAST_LIFT c = simp (lt-leb _ _ c.if-lift-gt-LAST_LIFT.true)

pub returns-then-bytes-at : goal.returns-then-bytes-at
unfolding when◌then◌else◌
returns-then-bytes-at c = simp (le-leb _ _ c.if-lift-gt-LAST_LIFT.false, lt-leb _ _ c.if-bytes-at.true)

pub returns : goal.returns
unfolding when◌then◌else◌
returns c = simp (le-leb _ _ c.if-lift-gt-LAST_LIFT.false, le-leb _ _ c.if-bytes-at.false)
