-- `stepping::step` meets its contract: by the test of what has started, the start or the run of the root. Assumes nothing.
use mathlib.Core.Path.{sym}
use Rattle.rules.specs.Lists.{when◌then◌else◌}
use Rattle.rules.specs.Run as rules
use Rattle.engine.proofs.stepping.step.Goals as goal

pub returns-then-not_started-clause-came : goal.returns-then-not_started-clause-came
unfolding rules.step when◌then◌else◌
returns-then-not_started-clause-came c = rw (sym c.not_started.ensures, c.if-not_started.true) c.start.ensures.came

pub returns-clause-came : goal.returns-clause-came
unfolding rules.step when◌then◌else◌
returns-clause-came c = rw (sym c.not_started.ensures, c.if-not_started.false) c.run.ensures.came
