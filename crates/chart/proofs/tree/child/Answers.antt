-- The first state that has p for its parent is found. Assumes nothing.
use borrow.Author.Rules.{rules}
use borrow.Author.Tests.{tests}
use lib.Dec.{eqb}
use Rattle.rules.specs.Chart.{parent}
use Rattle.chart.specs.Read.{children_from}
use Rattle.chart.proofs.Firsts.{found, as_state}
use Rattle.chart.proofs.tree.child.Goals as goal

pub returns : goal.returns
unfolding children_from
returns c = let a = c.args in
    rw (← as_state, ← found (λ s. eqb (parent a.chart.now s) a.p.0) _ _ _ c.find.ensures.ran (λ x b q k. search (rules, tests))) (search rules)
