-- A block's instructions, read from its part of a chart. Assumes nothing.
use Rattle.std.specs.Prelude.{List, map, ℕ, ◌*◌}
use Rattle.rules.specs.Bytes.{Bytes}
use Rattle.rules.specs.Lists.{up_from}
use Rattle.rules.specs.Chart.{Instruction}
use Rattle.rules.specs.Doing.{Doing, pay, ◌>>◌}
use Rattle.rules.specs.Block.{Ran, Stack, no_send, instruct}
use Rattle.chart.specs.Read.{instruction_from}

-- n instructions from the k-th on
unfoldable pub code_in : Bytes → ℕ → ℕ → List Instruction
code_in part k n = map (λ i. instruction_from part (6 * i)) (up_from k n)

-- one of them, where a send is barred; and paid before it
unfoldable pub instructed : Instruction → Stack → Doing Ran
instructed i st = instruct no_send i.op i st

unfoldable pub paid_for : Instruction → Stack → Doing Ran
paid_for i st = pay >> instructed i st
