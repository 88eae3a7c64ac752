-- A segment ends on a state, or on a junction whose parent is tested. Assumes nothing.
use mathlib.Core.Path.{sym}
use Rattle.moves.proofs.Lowest.{on-state, on-junction}
use Rattle.moves.proofs.arena.over_end.Goals as goal

pub returns-in-State : goal.returns-in-State
returns-in-State c = on-state _ _ _ (sym c.in-State.ensures)

pub returns-in-Junction : goal.returns-in-Junction
returns-in-Junction c = on-junction _ _ _ (sym c.in-Junction.ensures) c.junction_parent.ensures c.over.ensures
