-- The walk over a block's instructions in the table's bytes, up to that of number i. The invariant says that what the rule of
-- stacks asks of the block is what it asks of the instructions left, from depth d on: the law of the start says so of all of
-- them, a turn's law takes the first of them off, and each way out shows what the rule comes to. Assumes nothing.
use mathlib.Core.Path.{◌≡◌}
use mathlib.Core.Bool.{Bool, false, and-false}
use mathlib.Core.List.{List, [], ◌∷◌, map}
use Prim.Native.Nat.{ℕ, ◌+◌, ◌-◌, ◌*◌, ◌≤◌, ◌<◌}
use native.Mathlib.Omega.{arith}
use lib.Dec.{eqb, leb}
use borrow.Author.Tests.{le-leb, lt-leb}
use Rattle.rules.specs.Bytes.{Bytes}
use Rattle.rules.specs.Lists.{range}
use Rattle.rules.specs.Chart.{Block, Instruction, stack_places}
use Rattle.rules.specs.Accept.{Place, OpRule, op_rule, ends_at, depth_after, stack_right}
use Rattle.chart.specs.Read.{instruction_from}
use Rattle.chart.proofs.Ranges.{range-step, range-end}
use Rattle.checker.specs.Parts.{code_in, stack_in}

module _ (table : Bytes) (k : Block) where
  -- the instruction of a number, and it with those after it in the block
  abbrev pub nth : ℕ → Instruction
  nth i = instruction_from table (6 * i)

  left : ℕ → List Instruction
  left i = map nth (range i (k.start + k.count))

  left-start : code_in table k ≡ left k.start
  unfolding code_in left range
  left-start = let q : k.start + k.count - k.start ≡ k.count = omega arith in rw q

  left_step : (i : ℕ) → i < k.start + k.count → left i ≡ nth i ∷ left (i + 1)
  unfolding left
  left_step i h = rw (range-step i (k.start + k.count) h)

  left_end : (i : ℕ) → k.start + k.count ≤ i → left i ≡ []
  unfolding left
  left_end i h = rw (range-end i (k.start + k.count) h)

module _ (table : Bytes) (p : Place) (k : Block) where
  -- the stack, from depth d on
  pub stack_from : ℕ → ℕ → Bool
  stack_from d i = stack_right (ends_at p k) d (left table k i)

  pub stack-start : stack_in table p k ≡ stack_from 0 k.start
  unfolding stack_in stack_from
  stack-start = rw (left-start table k)

  module _ (d i : ℕ) (still : stack_in table p k ≡ stack_from d i) where
    pub stack-end : k.start + k.count ≤ i → eqb d (ends_at p k) ≡ stack_in table p k
    unfolding stack_from stack_right
    stack-end h = rw (still, left_end table k i h)

    module _ (more : i < k.start + k.count) {r : OpRule} (rule : r ≡ op_rule (nth table k i).op) where
      pub stack-few : d < r.takes → false ≡ stack_in table p k
      unfolding stack_from stack_right
      stack-few h = rw (still, left_step table k i more, ← rule, lt-leb r.takes d h)

      pub stack-deep : stack_places < d - r.takes + r.gives → false ≡ stack_in table p k
      unfolding stack_from stack_right depth_after
      stack-deep h =
          rw
          (still, left_step table k i more, ← rule, lt-leb (d - r.takes + r.gives) stack_places h, and-false (leb r.takes d))

      pub stack-on : r.takes ≤ d → d - r.takes + r.gives ≤ stack_places → stack_in table p k ≡ stack_from (d - r.takes + r.gives) (i + 1)
      unfolding stack_from stack_right depth_after
      stack-on h l =
          rw
          (still, left_step table k i more, ← rule, le-leb r.takes d h, le-leb (d - r.takes + r.gives) stack_places l)
