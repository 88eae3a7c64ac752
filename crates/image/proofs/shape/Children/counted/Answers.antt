-- The loop's invariant: the table is right up to the state at hand. The measure is how many states are left. Assumes nothing.
use mathlib.Core.Path.{ap}
use native.Mathlib.Omega.{arith}
use Rattle.rules.specs.declared.headers.Header.{Header}
use Rattle.image.proofs.Counting.{tally-room, walk_start, walk_turn, walk_end}
use Rattle.image.proofs.shape.Children.counted.Goals as goal

pub loop-k-init : goal.loop-k-init
loop-k-init c = walk_start _ _ _

pub add-requires : goal.add-requires
add-requires c = let w = c.loop-k.invariant in (tally-room _ w.every (omega arith) _ (omega arith), tally-room _ w.some (omega arith) _ (omega arith))

pub loop-k-preserved : goal.loop-k-preserved
loop-k-preserved c = walk_turn c.loop-k.invariant c.loop-k-test.true (omega arith) c.parent.ensures _ c.is_active.ensures c.add.ensures

pub returns : goal.returns
returns c = walk_end c.loop-k.invariant c.loop-k-test.false (ap (λ (h : Header). h.states) c.header-k-end.ensures)
