-- The instructions of the block's part are the block's in the chart. Assumes nothing.
use Rattle.blocks.proofs.Performing.{action-is, action-empty}
use Rattle.blocks.proofs.action.perform.Goals as goal

pub returns-then-block-eq0-clause-came : goal.returns-then-block-eq0-clause-came
returns-then-block-eq0-clause-came c = action-empty c.args.chart.now c.args.block _ c.if-block-eq0.true

pub returns-clause-came : goal.returns-clause-came
returns-clause-came c = action-is c.args.chart.now c.args.block _ c.code.ensures _ _ _ (rw c.new.ensures at c.run.ensures.came)
