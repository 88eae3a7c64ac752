-- An answer, and all that is to do. A test ends all at a yes, and at a no what follows goes on; a block leaves its stack to what
-- follows, and a search what it found. Assumes nothing.
use mathlib.Core.Path.{◌≡◌, sym}
use mathlib.Core.Bool.{Bool, true, false}
use mathlib.Core.List.{List}
use Rattle.std.specs.Prelude.{Result, Ok, Err}
use Rattle.std.specs.Result.{IsErrAnd}
use Rattle.std.proofs.lemmas.Result.{err_from_is_err_and}
use Rattle.rules.specs.Lists.{when◌then◌else◌}
use Rattle.rules.specs.Chart.{Segment}
use Rattle.rules.specs.Doing.{Now, Outcome, went, Doing, give, after}
use Rattle.rules.specs.Block.{Stack, Ran, ran}
use Rattle.rules.specs.Search.{Found}
use Rattle.rules.specs.declared.refusals.Refusal.{Refusal}
use Rattle.doing.specs.Outcomes.{outcome_of}
use Rattle.doing.proofs.Sequels.{went-next}
use Rattle.blocks.specs.Performed.{ran_of}
use Rattle.engine.specs.Told.{found, found_of}
use Rattle.engine.specs.declared.cycle.Found.{Found as CodeFound}

abbrev pub unless_over : Doing Bool → Bool → Doing Bool
unless_over m b = when b then give true else m

module _ (n : Now) (m : Doing Bool) {o : Outcome Bool} {r : Result Bool Refusal} (says : outcome_of r n ≡ o) {b : Bool} (is : r ≡ Ok b) where
  pub over-ends : b ≡ true → went true n ≡ after o (unless_over m)
  unfolding when◌then◌else◌ give
  over-ends q = went-next n _ says is (rw q)

  pub not-over : b ≡ false → {all : Outcome Bool} → all ≡ m n → all ≡ after o (unless_over m)
  unfolding when◌then◌else◌
  not-over q next = went-next n _ says is (rw q next)

module _ {B : Type 0} {o : Outcome Ran} {r : Result (Unit {0}) Refusal} (st : Stack) (n : Now) (f : Ran → Doing B)
    (says : ran_of r st n ≡ o) where
  pub ran-refused : {why : Refusal} → r ≡ Err why → (all : Result B Refusal) (n' : Now) → IsErrAnd all (λ e. e ≡ why)
      → outcome_of all n' ≡ after o f
  ran-refused is all n' told = let p = err_from_is_err_and all told in rw (p.1, p.2, sym says, is)

  pub ran-next : {u : Unit {0}} → r ≡ Ok u → {all : Outcome B} → all ≡ f (ran st) n → all ≡ after o f
  ran-next is next = rw (sym says, is) next

module _ {B : Type 0} {o : Outcome Found} {r : Result CodeFound Refusal} (path : List Segment) (n : Now) (f : Found → Doing B)
    (says : found_of r path n ≡ o) where
  pub found-refused : {why : Refusal} → r ≡ Err why → (all : Result B Refusal) (n' : Now) → IsErrAnd all (λ e. e ≡ why)
      → outcome_of all n' ≡ after o f
  found-refused is all n' told = let p = err_from_is_err_and all told in rw (p.1, p.2, sym says, is)

  pub found-next : {x : CodeFound} → r ≡ Ok x → {all : Outcome B} → all ≡ f (found x path) n → all ≡ after o f
  found-next is next = rw (sym says, is) next
