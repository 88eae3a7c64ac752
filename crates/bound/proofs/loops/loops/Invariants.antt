-- Those that are flagged are reached, one more in each round before; in a round, one is new, or those passed lead to what is
-- flagged. Assumes nothing.
use Rattle.bound.proofs.Reaching.{Reached, Going}
use Rattle.bound.proofs.loops.loops.Given as goal

abbrev pub invariant-loop : goal.invariant-loop
invariant-loop l = Reached l.chart l.j.0 l.counter l.here

abbrev pub invariant-loop-t : goal.invariant-loop-t
invariant-loop-t l = Going l.chart l.j.0 l.counter l.t l.here l.more
