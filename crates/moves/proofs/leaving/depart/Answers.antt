-- `leaving::depart` meets its contract: the exit action, then the record, the bit and the item. Assumes nothing.
use mathlib.Core.Path.{refl}
use Rattle.doing.proofs.Laws.{as-noted}
use Rattle.doing.proofs.Sequels.{refused-ends, went-next}
use Rattle.rules.specs.Doing.{◌>>◌, change, state_left}
use Rattle.moves.specs.Steps.{departing}
use Rattle.moves.proofs.leaving.depart.Goals as goal

pub returns-in_err-perform-clause-came : goal.returns-in_err-perform-clause-came
unfolding departing ◌>>◌
returns-in_err-perform-clause-came c = refused-ends _ _ (rw c.exit.ensures at c.perform.ensures.came) c.in_err-perform.was _ _ c.from_residual.ensures.1

pub returns-clause-came : goal.returns-clause-came
unfolding departing ◌>>◌ change
returns-clause-came c = went-next _ _ (rw c.exit.ensures at c.perform.ensures.came) c.in_ok-perform.was
    (rw (← c.remember.ensures.came, ← c.deactivate.ensures.value) (as-noted state_left _ _ refl c.note.ensures.came))
