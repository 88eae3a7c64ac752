-- `entering::on_the_way` meets its contract: the library's `find` over the states' numbers, the root's left out. Assumes nothing.
use borrow.Author.Rules.{rules}
use borrow.Author.Tests.{tests}
use mathlib.Core.Path.{refl}
use Rattle.std.proofs.lemmas.Iterator.{YieldsList-from_range, YieldsList-from_map}
use Rattle.std.proofs.lemmas.Iterator.Search.{find_from_yields_List}
use Rattle.moves.proofs.Enters.{leads, way-found}
use Rattle.moves.proofs.entering.on_the_way.Goals as goal

pub returns : goal.returns
returns c = let a = c.args in way-found a.chart.now a.s.0 a.target.0 c.header.result c.header.ensures _
    (find_from_yields_List (leads a.chart.now a.s.0 a.target.0) _ _ c.find.result c.find.ensures.ran
    (YieldsList-from_map _ (λ k. record { 0 = k }) (YieldsList-from_range 1 c.header.result.states _ c.map.ensures.source refl) c.map.ensures.closure (λ x r q k. search (rules, tests)))
    (λ x b q k. search (rules, tests)))
