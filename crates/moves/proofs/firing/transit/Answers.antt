-- `firing::transit` meets its contract: the item, then the action. Assumes nothing.
use mathlib.Core.Path.{refl}
use Rattle.doing.proofs.Laws.{as-noted}
use Rattle.doing.proofs.Sequels.{refused-ends, went-next}
use Rattle.rules.specs.Doing.{◌>>◌, transition_performed}
use Rattle.rules.specs.Fire.{transit}
use Rattle.moves.proofs.firing.transit.Goals as goal

pub returns-in_err-note-clause-came : goal.returns-in_err-note-clause-came
unfolding transit ◌>>◌
returns-in_err-note-clause-came c = refused-ends _ _ (as-noted transition_performed _ _ refl c.note.ensures.came) c.in_err-note.was _ _ c.from_residual.ensures.1

pub returns-clause-came : goal.returns-clause-came
unfolding transit ◌>>◌
returns-clause-came c = went-next _ _ (as-noted transition_performed _ _ refl c.note.ensures.came) c.in_ok-note.was (rw (← c.transition_action.ensures) c.perform.ensures.came)
