-- The parts of a state's run, added in their order, each sum stopped at the limit. Assumes nothing.
use Rattle.bound.proofs.Adding.{state-run}
use Rattle.bound.proofs.whole.state.Goals as goal

pub returns : goal.returns
returns c =
    state-run c.args.chart.now c.args.sums.now c.args.s.0 c.during-during.ensures c.args.moves
    c.edge-outer.ensures c.edge-inner.ensures c.plus.ensures c.plus-run.ensures c.plus-2.ensures
