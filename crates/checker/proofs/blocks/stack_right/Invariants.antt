-- The loop's invariant: the stack has at most 16 values, and whether the block uses it right is whether the instructions left
-- use it right from this depth on. Assumes nothing.
use mathlib.Core.Path.{◌≡◌}
use Prim.Native.Nat.{◌≤◌}
use Rattle.rules.specs.Chart.{stack_places}
use Rattle.chart.specs.Read.{block_of}
use Rattle.checker.specs.Meaning.{place_meant}
use Rattle.checker.specs.Parts.{stack_in}
use Rattle.checker.proofs.Walks.{stack_from}
use Rattle.checker.proofs.blocks.stack_right.Given as goal

abbrev pub invariant-loop-i : goal.invariant-loop-i
invariant-loop-i l = (l.depth ≤ stack_places) ×
    (stack_in l.table (place_meant l.place) (block_of l.block) ≡ stack_from l.table (place_meant l.place) (block_of l.block) l.depth l.i)
