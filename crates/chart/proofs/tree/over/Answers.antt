-- The loop's invariant: whether a is in the lineage of s is whether a is on what is left of it from here, which is as far up as
-- there are turns left. Assumes nothing.
use mathlib.Core.Path.{sym, ◌∙◌}
use native.Mathlib.Omega.{arith}
use borrow.Author.Tests.{eqb-true, eqb-false}
use Rattle.rules.specs.Chart.{over}
use Rattle.chart.proofs.Lineages.{lineage-here, lineage-root, lineage-up, lineage-end}
use Rattle.chart.proofs.tree.over.Goals as goal

pub returns-then-eq : goal.returns-then-eq
unfolding over
returns-then-eq c = lineage-here _ _ _ _ c.loop.invariant (eqb-true _ _ (sym c.eq.ensures ∙ c.if-eq.true))

pub returns-then-at-eq0 : goal.returns-then-at-eq0
unfolding over
returns-then-at-eq0 c = lineage-root _ _ _ _ c.loop.invariant (omega arith) (eqb-false _ _ (sym c.eq.ensures ∙ c.if-eq.false)) c.if-at-eq0.true

pub loop-preserved : goal.loop-preserved
loop-preserved c = lineage-up _ _ _ _ c.loop.invariant (omega arith) (eqb-false _ _ (sym c.eq.ensures ∙ c.if-eq.false)) c.if-at-eq0.false _ c.parent-at.ensures _ (omega arith)

pub returns : goal.returns
unfolding over
returns c = c.eq-2.ensures ∙ lineage-end _ _ _ _ c.loop.invariant (omega arith)
