-- `stepping::start` meets its contract: the start is the entering of the root. Assumes nothing.
use Rattle.rules.specs.Run as rules
use Rattle.engine.proofs.stepping.start.Goals as goal

pub returns-clause-came : goal.returns-clause-came
unfolding rules.start
returns-clause-came c = c.enter.ensures.came
