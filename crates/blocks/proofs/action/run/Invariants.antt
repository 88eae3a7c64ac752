-- The loop's invariant: what is still to perform from k on is what the whole block was to perform, and
-- the same slices are lent. The measure is how many
-- instructions are left. Assumes nothing.
use mathlib.Core.Path.{◌≡◌}
use Prim.Native.Nat.{◌-◌}
use Rattle.rules.specs.Block.{no_send, perform}
use Rattle.doing.specs.Held.{held, Same}
use Rattle.blocks.specs.Code.{code_in}
use Rattle.blocks.proofs.Performing.{to_perform}
use Rattle.blocks.proofs.action.run.Given as goal

abbrev pub invariant-loop-k : goal.invariant-loop-k
invariant-loop-k l =
    (to_perform l.part l.count l.k l.stack (held l.now) ≡ perform no_send l.initial.stack (code_in l.part 0 l.count) (held l.initial.now))
    × Same l.initial.now l.now

abbrev pub decreases-loop-k : goal.decreases-loop-k
decreases-loop-k l = l.count - l.k
