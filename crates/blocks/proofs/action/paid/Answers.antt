-- A unit is paid or not; then the instruction. Assumes nothing.
use Rattle.blocks.proofs.Performing.{unpaid, paid-for}
use Rattle.blocks.proofs.action.paid.Goals as goal

pub returns-in_err-pay-clause-came : goal.returns-in_err-pay-clause-came
returns-in_err-pay-clause-came c = unpaid _ _ _ _ c.pay.ensures.came c.in_err-pay.was _ c.from_residual.ensures.1

pub returns-clause-came : goal.returns-clause-came
returns-clause-came c = paid-for _ _ _ _ c.pay.ensures.came c.in_ok-pay.was c.perform.ensures.came
