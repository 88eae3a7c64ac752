-- The search for the first child finds none in an empty list alone. Assumes nothing.
use Rattle.std.proofs.Common.{◌≡◌, refl, sym, ap, ◌∙◌, Bool, true, false, not, List, [], ◌∷◌, length, arith}
use lib.Dec.{eqb}
use borrow.Author.Tests.{ne_eqb}
use Rattle.std.specs.Option.{is_some}
use Rattle.rules.specs.Chart.{State}
use Rattle.rules.specs.Accept.{children_right}
use Rattle.chart.specs.Read.{first_state}
use Rattle.checker.proofs.states.children_right.Goals as goal

has_first : (ss : List State) → is_some (first_state ss) ≡ not (eqb (length ss) 0)
unfolding first_state
has_first [] = refl
has_first (s ∷ ss) = rw (ne_eqb (length (s ∷ ss)) 0 (λ q. omega arith))

same : (a b : Bool) → not a ≡ not b → a ≡ b
same true true e = refl
same true false e = sym e
same false true e = sym e
same false false e = refl

pub returns : goal.returns
unfolding children_right
returns c = let none = same _ _ (sym c.is_none.ensures ∙ ap is_some c.first_child.ensures ∙ has_first _) in
    rw (c.is_leaf.ensures, none)
