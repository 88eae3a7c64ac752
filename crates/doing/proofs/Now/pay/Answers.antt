-- A unit is there or not. Assumes nothing.
use Rattle.doing.proofs.Laws.{pay-unpaid, pay-paid}
use Rattle.doing.proofs.Now.pay.Goals as goal

pub returns-then-self-eq0-clause-came : goal.returns-then-self-eq0-clause-came
returns-then-self-eq0-clause-came c = pay-unpaid _ _ _ c.if-self-eq0.true

pub returns-clause-came : goal.returns-clause-came
returns-clause-came c = pay-paid _ _ _ c.if-self-eq0.false
