-- The loop's invariant: the lowest state from the source is the lowest from here. Assumes nothing.
use mathlib.Core.Path.{◌≡◌, sym, ◌∙◌}
use Prim.Native.Nat.{◌+◌, ◌-◌}
use native.Mathlib.Omega.{arith}
use borrow.Author.Tests.{eq-eqb, ne_eqb}
use Rattle.rules.specs.Fire.{levels}
use Rattle.moves.proofs.Lowest.{climbed-all, climbed-here, climbed-on, common-climbed}
use Rattle.moves.proofs.arena.common.Goals as goal
use Rattle.moves.proofs.arena.common.Goals.{then-at-eq0-via-then-at-eq0, then-at-eq0-via-else-at-eq0+then-over_all}

pub loop-init : goal.loop-init
loop-init c = common-climbed _ _ _ _

pub returns-then-at-eq0 : goal.returns-then-at-eq0
returns-then-at-eq0 c = climbed-here _ _ (levels - c.loop.counter) _ c.loop.invariant (omega arith)
    (elim c.then-at-eq0.branch [
      | then-at-eq0-via-then-at-eq0 w ↦ rw (eq-eqb _ _ w.if-at-eq0.true)
      | then-at-eq0-via-else-at-eq0+then-over_all w ↦ rw (ne_eqb _ _ w.if-at-eq0.false) (sym w.over_all.ensures ∙ w.if-over_all.true)
    ])

pub loop-preserved : goal.loop-preserved
loop-preserved c = let one : levels - c.loop.counter - 1 ≡ levels - (c.loop.counter + 1) = omega arith in
    rw (← one) (climbed-on _ _ (levels - c.loop.counter) _ c.loop.invariant (omega arith)
    (rw (ne_eqb _ _ c.if-at-eq0.false) (sym c.over_all.ensures ∙ c.if-over_all.false)) c.parent-at.ensures)

pub returns : goal.returns
returns c = climbed-all _ _ (levels - c.loop.counter) _ c.loop.invariant (omega arith)
