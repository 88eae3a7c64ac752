-- The instructions of a block, in the bytes of the table of instructions that is handed on with a chart, are those in the
-- chart's, where they stand further on. Assumes nothing.
use mathlib.Core.Path.{◌≡◌, refl, ap, ◌∙◌}
use mathlib.Core.Bool.{Bool}
use mathlib.Core.List.{map_congr_left}
use Prim.Native.Nat.{ℕ, ◌+◌, ◌*◌}
use native.Mathlib.Omega.{arith}
use lib.ListN.{drop}
use Rattle.rules.specs.Lists.{up_from}
use Rattle.rules.specs.Chart.{Chart, Block, Instruction, instruction, instruction_at, code}
use Rattle.rules.specs.Accept.{Operands, op_rule, operands_right, instruction_right, Place, stack_use_right, nothing_barred}
use Rattle.chart.specs.Read.{instruction_from}
use Rattle.chart.proofs.Parts.{instruction-drop}
use Rattle.checker.specs.Parts.{code_in, stack_in, barred_in}

-- the instruction that is read at its place
pub chart-instruction : (c : Chart) (i : ℕ) → instruction_from c (instruction_at c i) ≡ instruction c i
unfolding instruction
chart-instruction c i = refl

-- and is right by its op's operands
pub right-by-op : (c : Chart) (i : ℕ) (x : Instruction) (o : Operands) {r : Bool}
    → r ≡ operands_right c o x → o ≡ (op_rule x.op).operands → x ≡ instruction c i → r ≡ instruction_right c i
unfolding instruction_right
right-by-op c i x o p q e = cc

-- in the table's bytes
table-instruction : (c : Chart) (i : ℕ) → instruction_from (drop (instruction_at c 0) c) (6 * i) ≡ instruction c i
unfolding instruction
table-instruction c i =
    let e : instruction_at c 0 + 6 * i ≡ instruction_at c i = omega arith in
    instruction-drop c (instruction_at c 0) (6 * i) ∙ ap (instruction_from c) e

module _ (c : Chart) where
  code-in : (k : Block) → code_in (drop (instruction_at c 0) c) k ≡ code c k
  unfolding code_in code
  code-in k = map_congr_left {l = up_from k.start k.count} (λ i m. table-instruction c i)

  pub stack-in : (p : Place) (k : Block) → stack_in (drop (instruction_at c 0) c) p k ≡ stack_use_right c p k
  unfolding stack_in stack_use_right
  stack-in p k = rw (code-in k)

  pub barred-in : (p : Place) (k : Block) → barred_in (drop (instruction_at c 0) c) p k ≡ nothing_barred c p k
  unfolding barred_in nothing_barred
  barred-in p k = rw (code-in k)
