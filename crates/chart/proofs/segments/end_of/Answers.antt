-- The kind decides, as the rules read it. Assumes nothing.
use borrow.Author.Tests.{ne_eqb}
use Rattle.rules.specs.Lists.{when◌then◌else◌}
use Rattle.chart.proofs.segments.end_of.Goals as goal

pub returns-then-byte_of-eq0 : goal.returns-then-byte_of-eq0
unfolding when◌then◌else◌
returns-then-byte_of-eq0 c = rw (← c.byte_of-number.ensures, ← c.byte_of.ensures, c.if-byte_of-eq0.true)

pub returns-else-byte_of-eq0 : goal.returns-else-byte_of-eq0
unfolding when◌then◌else◌
returns-else-byte_of-eq0 c = rw (← c.byte_of-number.ensures, ← c.byte_of.ensures, ne_eqb c.byte_of.result 0 c.if-byte_of-eq0.false)
