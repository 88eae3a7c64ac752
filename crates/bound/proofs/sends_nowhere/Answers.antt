-- The chain's answer is the test of every instruction. Assumes nothing.
use mathlib.Core.Path.{refl, ap, ◌∙◌}
use native.Mathlib.Omega.{arith}
use Rattle.std.proofs.Common.{rules, tests}
use Rattle.std.proofs.lemmas.Iterator.{YieldsList-from_range}
use Rattle.std.proofs.lemmas.Iterator.Search.{all_from_yields_List}
use Rattle.rules.specs.declared.headers.Header.{Header}
use Rattle.bound.proofs.Told.{sends_not, every-range}
use Rattle.bound.proofs.sends_nowhere.Goals as goal

pub returns : goal.returns
returns c =
    all_from_yields_List (sends_not c.args.chart.now) _ _ c.all.result c.all.ensures.ran
    (YieldsList-from_range 0 _ c.header.result.instructions refl (omega arith)) (λ x b q k. search (rules, tests))
    ∙ every-range (sends_not c.args.chart.now) (ap (λ (h : Header). h.instructions) c.header.ensures)
