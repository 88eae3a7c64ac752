-- Rules over parts of the chart's bytes: a mark as bytes, and blocks in the table of instructions. Assumes nothing.
use Rattle.std.specs.Prelude.{Bool, ◌&&◌, List, map, ℕ, ◌+◌, ◌*◌, eqb, slice_index}
use Rattle.std.proofs.Math.Bool as B
use Rattle.rules.specs.Bytes.{Bytes, byte}
use Rattle.rules.specs.Lists.{up_from, every}
use Rattle.rules.specs.Chart.{Block, Instruction}
use Rattle.rules.specs.Accept.{Place, op_rule, barred, ends_at, stack_right}
use Rattle.chart.specs.Read.{instruction_from}

-- the two letters of a mark stand at place i
abbrev pub letters_at : Bytes → Bytes → ℕ → Bool
letters_at b m i = eqb (byte b i) (slice_index m 0) && eqb (byte b (i + 1)) (slice_index m 1)

-- the instructions of a block, in the table's bytes
unfoldable pub code_in : Bytes → Block → List Instruction
code_in b k = map (λ i. instruction_from b (6 * i)) (up_from k.start k.count)

unfoldable pub stack_in : Bytes → Place → Block → Bool
stack_in b p k = stack_right (ends_at p k) 0 (code_in b k)

unfoldable pub barred_in : Bytes → Place → Block → Bool
barred_in b p k = every (λ i. B.not (barred p (op_rule i.op).effect)) (code_in b k)
