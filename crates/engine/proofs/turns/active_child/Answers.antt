-- `turns::active_child` meets its contract: by what stands at a number, the first active child from there on is found or
-- is still to come. Assumes nothing.
use mathlib.Core.Path.{refl, sym, ◌∙◌}
use mathlib.Core.Bool.{true, false}
use Rattle.rules.specs.Lists.{when◌then◌else◌}
use Rattle.chart.specs.Read.{children_from}
use Rattle.engine.proofs.Turning.{none-past, by-tests}
use Rattle.engine.proofs.turns.active_child.Goals as goal
use Rattle.engine.proofs.turns.active_child.Goals.{else-eq-via-then-eq+else-is_active, else-eq-via-else-eq}

pub returns-then-is_active : goal.returns-then-is_active
unfolding children_from when◌then◌else◌
returns-then-is_active c =
    sym (c.loop-k.invariant ∙ by-tests c.args.chart.now _ _ _ _ c.loop-k-test.true true true (cc) (cc))

pub loop-k-preserved : goal.loop-k-preserved
unfolding when◌then◌else◌
loop-k-preserved c =
    let tests = by-tests c.args.chart.now c.args.image.now _ _ _ c.loop-k-test.true in
    elim c.else-eq.branch [
      | else-eq-via-then-eq+else-is_active w ↦ c.loop-k.invariant ∙ tests true false (cc) (cc)
      | else-eq-via-else-eq w ↦ c.loop-k.invariant ∙ tests false _ (cc) refl
    ]

pub returns : goal.returns
unfolding children_from
returns c = sym (c.loop-k.invariant ∙ none-past c.args.chart.now _ _ _ _ c.loop-k-test.false)
