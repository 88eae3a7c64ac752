-- By the chart's own header the place is the rules'. Assumes nothing.
use mathlib.Core.Path.{◌∙◌}
use Rattle.rules.specs.Chart.{instruction}
use Rattle.bound.proofs.is_send.Goals as goal

pub returns : goal.returns
unfolding instruction
returns c = c.is_send.ensures ∙ rw (c.instruction.ensures, c.bytes.ensures, c.header.ensures)
