-- The target, then the path's junctions end by end. Assumes nothing.
use borrow.Author.Rules.{rules}
use borrow.Author.Tests.{tests}
use Rattle.std.proofs.lemmas.Iterator.{YieldsList-from_slice}
use Rattle.std.proofs.lemmas.Iterator.Search.{all_from_yields_List}
use Rattle.moves.specs.Steps.{over_end, over_all}
use Rattle.moves.proofs.Lowest.{end-by-end}
use Rattle.moves.proofs.arena.over_all.Goals as goal

pub returns-then-over : goal.returns-then-over
unfolding over_all
returns-then-over c = let a = c.args in
    rw (← c.if-over.ensures, end-by-end)
    (all_from_yields_List (over_end a.chart.now a.a.0) _ _ _ c.all.ensures.ran (YieldsList-from_slice a.path.now (cc))
    (λ x b q k. search (rules, tests)))

pub returns-else-over : goal.returns-else-over
unfolding over_all
returns-else-over c = rw (← c.over.ensures, c.if-over.false)
