-- A child's turn is found at a level, or there is none: then the level above is looked at, or nobody has a turn. Assumes nothing.
use mathlib.Core.Path.{◌≡◌, sym, ◌∙◌}
use native.Mathlib.Omega.{arith}
use Rattle.engine.specs.Turns.{childs_turn}
use Rattle.engine.proofs.Turning.{child-turn, too-deep, turn-child, turn-over, turn-above}
use Rattle.engine.proofs.turns.next.Goals as goal
use Rattle.engine.proofs.turns.next.Goals.{Joined-below-lt-DEEPEST, then-below-lt-DEEPEST+else-state-ne0, else-below-lt-DEEPEST}

pub returns-then-state-ne0 : goal.returns-then-state-ne0
returns-then-state-ne0 c = let a = c.args in
    sym (c.loop-below.invariant ∙ turn-child a.chart.now a.h a.image.now _ _ _
    (child-turn a.chart.now a.h a.image.now _ _ _ c.if-below-lt-DEEPEST.true ∙ sym c.active_child-state.ensures) c.if-state-ne0.true)

no_child : (c : Joined-below-lt-DEEPEST)
    → childs_turn c.args.chart.now c.args.h c.args.image.now c.loop-below.below c.loop-below.at.0 c.loop-below.k ≡ 0
no_child c =
    let a = c.args in
    elim c.if-below-lt-DEEPEST.branch [
      | then-below-lt-DEEPEST+else-state-ne0 w ↦
          child-turn a.chart.now a.h a.image.now _ _ _ w.if-below-lt-DEEPEST.true ∙ sym w.active_child-state.ensures ∙ w.if-state-ne0.false
      | else-below-lt-DEEPEST w ↦ too-deep a.chart.now a.h a.image.now _ _ _ w.if-below-lt-DEEPEST.false
    ]

pub loop-below-preserved : goal.loop-below-preserved
loop-below-preserved c =
    c.loop-below.invariant
    ∙ turn-above c.args.chart.now _ _ _ _ _ (λ z. omega (arith, z)) (no_child ((goal.at.loop-below-preserved c).Joined-below-lt-DEEPEST))
    ∙ rw (c.following-k.ensures, c.parent-parent.ensures)

pub returns-after-below-lt-DEEPEST : goal.returns-after-below-lt-DEEPEST
returns-after-below-lt-DEEPEST c =
    sym (c.loop-below.invariant
    ∙ turn-over c.args.chart.now _ _ _ _ _ (omega arith) (no_child ((goal.at.returns-after-below-lt-DEEPEST c).Joined-below-lt-DEEPEST)))
