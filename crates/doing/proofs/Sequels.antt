-- One doing after another, as the code goes: an error is the answer of all, and what went is left to what follows. Assumes
-- nothing.
use mathlib.Core.Path.{◌≡◌, sym}
use Rattle.std.specs.Prelude.{Result, Ok, Err}
use Rattle.std.specs.Result.{IsErrAnd}
use Rattle.std.proofs.lemmas.Result.{err_from_is_err_and}
use Rattle.rules.specs.Doing.{Now, Outcome, Doing, after}
use Rattle.rules.specs.declared.refusals.Refusal.{Refusal}
use Rattle.doing.specs.Outcomes.{outcome_of}

-- the exit of a `?`
pub refused-ends : {A B : Type 0} {o : Outcome A} {r : Result A Refusal} (n : Now) (f : A → Doing B) → outcome_of r n ≡ o
    → {why : Refusal} → r ≡ Err why → (all : Result B Refusal) (n' : Now) → IsErrAnd all (λ e. e ≡ why) → outcome_of all n' ≡ after o f
refused-ends n f says is all n' told = let p = err_from_is_err_and all told in rw (p.1, p.2, sym says, is)

-- what follows it
pub went-next : {A B : Type 0} {o : Outcome A} {r : Result A Refusal} (n : Now) (f : A → Doing B) → outcome_of r n ≡ o
    → {a : A} → r ≡ Ok a → {all : Outcome B} → all ≡ f a n → all ≡ after o f
went-next n f says is next = rw (sym says, is) next
