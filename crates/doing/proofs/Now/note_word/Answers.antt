-- There is room for one more word or not. Assumes nothing.
use Rattle.doing.proofs.Laws.{note-full, note-goes}
use Rattle.doing.proofs.Now.note_word.Goals as goal

pub returns-then-self-at-clause-came : goal.returns-then-self-at-clause-came
returns-then-self-at-clause-came c = note-full _ _ _ _ c.if-self-at.true

pub returns-clause-came : goal.returns-clause-came
returns-clause-came c = note-goes _ _ _ _ c.if-self-at.false
