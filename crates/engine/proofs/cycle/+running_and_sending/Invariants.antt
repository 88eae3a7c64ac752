-- What the loops keep, and the measures: four times the units left, and how far a function is from the next pay. Assumes nothing.
use Prim.Native.Nat.{◌+◌, ◌*◌, ◌≤◌}
use lib.ListN.{length}
use Rattle.doing.specs.Held.{held, Same}
use Rattle.engine.specs.Turns.{turn_of}
use Rattle.engine.proofs.Sending.{Acting}
use Rattle.engine.proofs.Searching.{Still}
use Rattle.engine.proofs.Running.{Runs}
use Rattle.engine.proofs.cycle.+running_and_sending.Given as goal

abbrev pub invariant-block-loop-k : goal.invariant-block-loop-k
invariant-block-loop-k l = Acting l.chart l.turn.sends l.turn.state.0 l.fn.block (held l.fn.now) l.part l.k l.stack (held l.now)
    × Same l.fn.now l.now

abbrev pub invariant-search-search : goal.invariant-search-search
invariant-search-search l = Still l.chart l.turn.sends l.turn.event l.turn.state.0 l.fn.first.0 (held l.fn.now) l.path l.next (held l.now)
    × Same l.fn.now l.now

abbrev pub decreases-search-search : goal.decreases-search-search
decreases-search-search l = 2 * (held l.now).units + length l.path

abbrev pub invariant-search-loop-next : goal.invariant-search-loop-next
invariant-search-loop-next l =
    Still l.chart l.turn.sends l.turn.event l.turn.state.0 l.fn.first.0 (held l.fn.now) l.path l.next (held l.now)
    × (2 * (held l.now).units + length l.path ≤ 2 * (held l.initial.now).units + length l.initial.path)
    × Same l.fn.now l.now

abbrev pub decreases-search-loop-next : goal.decreases-search-loop-next
decreases-search-loop-next l = 2 * (held l.now).units + length l.path

abbrev pub invariant-run-loop-next : goal.invariant-run-loop-next
invariant-run-loop-next l = Runs l.chart l.sends l.event l.fn.top.0 (held l.fn.now) (turn_of l.next) (held l.now)
    × Same l.fn.now l.now

abbrev pub decreases-run-loop-next : goal.decreases-run-loop-next
decreases-run-loop-next l = (held l.now).units

abbrev pub decreases-alone : goal.decreases-alone
decreases-alone l = 4 * (held l.now.now).units

abbrev pub decreases-attempt : goal.decreases-attempt
decreases-attempt l = 4 * (held l.now.now).units

abbrev pub decreases-send_from : goal.decreases-send_from
decreases-send_from l = 4 * (held l.now.now).units

abbrev pub decreases-block : goal.decreases-block
decreases-block l = 4 * (held l.now.now).units + 1

abbrev pub decreases-run : goal.decreases-run
decreases-run l = 4 * (held l.now.now).units + 1

abbrev pub decreases-search : goal.decreases-search
decreases-search l = 4 * (held l.now.now).units + 1

abbrev pub decreases-edge : goal.decreases-edge
decreases-edge l = 4 * (held l.now.now).units + 2

abbrev pub decreases-pass : goal.decreases-pass
decreases-pass l = 4 * (held l.now.now).units + 2

abbrev pub decreases-send : goal.decreases-send
decreases-send l = 4 * (held l.now.now).units + 2

abbrev pub decreases-inside : goal.decreases-inside
decreases-inside l = 4 * (held l.now.now).units + 3
