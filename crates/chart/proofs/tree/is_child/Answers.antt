-- `tree::is_child` meets its contract: a number is among the kept ones of a range exactly if it is in the range and passes.
-- Assumes nothing.
use mathlib.Core.Path.{sym}
use lib.Dec.{eqb}
use Rattle.rules.specs.Chart.{parent}
use Rattle.chart.specs.Read.{children_from}
use Rattle.chart.proofs.Ranges.{is-in-kept-range}
use Rattle.chart.proofs.tree.is_child.Goals as goal

pub returns : goal.returns
unfolding children_from
returns c = let a = c.args in
    rw (c.eq.ensures, c.parent.ensures)
    (sym (is-in-kept-range (λ s. eqb (parent a.chart.now s) a.p.0) a.s.0 1 a.h.states))
