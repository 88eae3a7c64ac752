-- The parent keeps history or not. Assumes nothing.
use Rattle.rules.specs.Lists.{when◌then◌else◌}
use Rattle.rules.specs.Doing.{change, done, give}
use Rattle.rules.specs.Fire.{parent_records}
use Rattle.moves.proofs.leaving.remember.Goals as goal

pub returns-then-keeps_history-clause-came : goal.returns-then-keeps_history-clause-came
unfolding parent_records when◌then◌else◌ change
returns-then-keeps_history-clause-came c = rw (← c.parent-p.ensures, ← c.keeps_history.ensures, c.if-keeps_history.true, c.record_child.ensures.value)

pub returns-else-keeps_history-clause-came : goal.returns-else-keeps_history-clause-came
unfolding parent_records when◌then◌else◌ done give
returns-else-keeps_history-clause-came c = rw (← c.parent-p.ensures, ← c.keeps_history.ensures, c.if-keeps_history.false)
