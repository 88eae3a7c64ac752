-- The op's number that was read is a send's. Assumes nothing.
use Rattle.chart.proofs.Sends.{send-number}
use Rattle.chart.proofs.instructions.is_send.Goals as goal

pub returns : goal.returns
returns c = rw c.at.ensures (send-number _)
