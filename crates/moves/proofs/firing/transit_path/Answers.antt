-- `firing::transit_path` meets its contract. The loop's invariant: what is to do for the whole path is what is to do for what
-- is left of it. Assumes nothing.
use mathlib.Core.Path.{refl}
use lib.ListN.{drop_of_length-le}
use Rattle.doing.proofs.Lent.{same-itself, same-then}
use Rattle.moves.proofs.Follows.{next-at, turn-done, turn-refused, turn-went}
use Rattle.moves.proofs.firing.transit_path.Goals as goal

pub returns-in_err-transit-clause-came : goal.returns-in_err-transit-clause-came
returns-in_err-transit-clause-came c = turn-refused c.loop-t.invariant.0 (next-at c.args.path.now _ c.loop-t-test.true) _ c.transit.ensures.came
    c.in_err-transit.was _ _ c.from_residual.ensures.1

pub loop-t-preserved : goal.loop-t-preserved
loop-t-preserved c = (
  turn-went c.loop-t.invariant.0 (next-at c.args.path.now _ c.loop-t-test.true) _ c.transit.ensures.came c.in_ok-transit.was refl,
  same-then c.loop-t.invariant.1 c.transit.ensures.same,
)

pub returns-clause-came : goal.returns-clause-came
returns-clause-came c = turn-done c.loop-t.invariant.0 (drop_of_length-le c.args.path.now c.loop-t-test.false)
