-- The parent of a state that is source, target and lowest, else the lowest. Assumes nothing.
use Rattle.rules.specs.Lists.{when◌then◌else◌}
use Rattle.rules.specs.Fire.{arena}
use Rattle.moves.proofs.arena.arena.Goals as goal
use Rattle.moves.proofs.arena.arena.Goals.{else-eq-via-then-eq+else-eq-2, else-eq-via-else-eq}

pub returns-then-eq-2 : goal.returns-then-eq-2
unfolding arena when◌then◌else◌
returns-then-eq-2 c = rw (← c.common-lowest.ensures, ← c.if-eq.ensures, ← c.if-eq-2.ensures) c.parent.ensures

pub returns : goal.returns
unfolding arena when◌then◌else◌
returns c = rw (← c.common-lowest.ensures) (elim c.else-eq.branch [
  | else-eq-via-then-eq+else-eq-2 w ↦ rw (← w.if-eq.ensures, ← w.if-eq-2.ensures)
  | else-eq-via-else-eq w ↦ rw (← w.if-eq.ensures)
])
