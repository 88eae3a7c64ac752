-- `firing::fire` meets its contract: three doings one after another, of which one that is refused ends all. Assumes nothing.
use mathlib.Core.Path.{sym}
use Rattle.doing.proofs.Sequels.{refused-ends, went-next}
use Rattle.rules.specs.Doing.{◌>>◌}
use Rattle.rules.specs.Fire.{fire}
use Rattle.moves.proofs.firing.fire.Goals as goal

pub returns-in_err-leave_children-clause-came : goal.returns-in_err-leave_children-clause-came
unfolding fire ◌>>◌
returns-in_err-leave_children-clause-came c = rw (sym c.arena-ground.ensures)
    (refused-ends _ _ c.leave_children.ensures.came c.in_err-leave_children.was _ _ c.from_residual.ensures.1)

pub returns-in_err-transit_path-clause-came : goal.returns-in_err-transit_path-clause-came
unfolding fire ◌>>◌
returns-in_err-transit_path-clause-came c = rw (sym c.arena-ground.ensures) (went-next _ _ c.leave_children.ensures.came c.in_ok-leave_children.was
    (refused-ends _ _ c.transit_path.ensures.came c.in_err-transit_path.was _ _ c.from_residual-in_err-transit_path.ensures.1))

pub returns-clause-came : goal.returns-clause-came
unfolding fire ◌>>◌
returns-clause-came c = rw (sym c.arena-ground.ensures) (went-next _ _ c.leave_children.ensures.came c.in_ok-leave_children.was
    (went-next _ _ c.transit_path.ensures.came c.in_ok-transit_path.was c.enter_children.ensures.came))
