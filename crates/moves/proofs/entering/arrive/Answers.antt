-- `entering::arrive` meets its contract: paid, active, noted, then the entry action. Assumes nothing.
use mathlib.Core.Path.{refl}
use Rattle.doing.proofs.Laws.{as-noted}
use Rattle.doing.proofs.Sequels.{refused-ends, went-next}
use Rattle.rules.specs.Doing.{◌>>◌, change, state_entered}
use Rattle.moves.specs.Steps.{arriving}
use Rattle.moves.proofs.entering.arrive.Goals as goal

pub returns-in_err-pay-clause-came : goal.returns-in_err-pay-clause-came
unfolding arriving ◌>>◌
returns-in_err-pay-clause-came c = (refused-ends _ _ c.pay.ensures.came c.in_err-pay.was _ _ c.from_residual.ensures.1)

pub returns-in_err-note-clause-came : goal.returns-in_err-note-clause-came
unfolding arriving ◌>>◌ change
returns-in_err-note-clause-came c = (went-next _ _ c.pay.ensures.came c.in_ok-pay.was (rw (← c.activate.ensures.value)
    (refused-ends _ _ (as-noted state_entered _ _ refl c.note.ensures.came) c.in_err-note.was _ _ c.from_residual-in_err-note.ensures.1)))

pub returns-clause-came : goal.returns-clause-came
unfolding arriving ◌>>◌ change
returns-clause-came c = (went-next _ _ c.pay.ensures.came c.in_ok-pay.was (rw (← c.activate.ensures.value)
    (went-next _ _ (as-noted state_entered _ _ refl c.note.ensures.came) c.in_ok-note.was (rw c.entry.ensures at c.perform.ensures.came))))
