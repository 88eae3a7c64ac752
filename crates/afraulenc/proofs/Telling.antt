-- The number that tells an answer: an error's is its own, and it is not 0. Assumes nothing.
use mathlib.Core.Path.{◌≡◌}
use Prim.Native.Nat.{ℕ}
use native.Mathlib.Omega.{arith}
use Rattle.std.specs.Prelude.{Result, Ok, Err, Option, Some, None}
use Rattle.std.specs.Result.{IsErrAnd}
use Rattle.std.specs.Option.{ok_or}
use Rattle.std.proofs.lemmas.Result.{err_from_is_err_and}
use Rattle.rules.specs.Types.{number_of}
use Rattle.rules.specs.declared.refusals.Refusal.{Refusal}
use Rattle.rules.specs.declared.refusals.Refusal.TheVariants as why
use Rattle.checker.specs.Meaning.{refusal_number}
use Rattle.afraulenc.specs.Parts.{told_of}

-- the exit of a `?`
pub err-told : {A : Type 0} (f : A → ℕ) (r : Refusal) (all : Result A Refusal) → IsErrAnd all (λ x. x ≡ r) → told_of f all ≡ number_of r
err-told f r all told = let p = err_from_is_err_and all told in rw (p.1, p.2)

pub not-none : (r : Refusal) → number_of r ≡ 0 → ⊥
not-none why.ShortChart e = omega arith
not-none why.ChartMark e = omega arith
not-none why.Count e = omega arith
not-none why.ChartLength e = omega arith
not-none why.Record e = omega arith
not-none why.State e = omega arith
not-none why.Segment e = omega arith
not-none why.Block e = omega arith
not-none why.Instruction e = omega arith
not-none why.StackUse e = omega arith
not-none why.Barred e = omega arith
not-none why.NoPart e = omega arith
not-none why.Image e = omega arith
not-none why.Event e = omega arith
not-none why.Allowance e = omega arith
not-none why.NoUnit e = omega arith
not-none why.Arithmetic e = omega arith
not-none why.NinthSend e = omega arith
not-none why.LongPath e = omega arith
not-none why.NoRoom e = omega arith
not-none why.Sends e = omega arith
not-none why.Loop e = omega arith
not-none why.BoundTooLarge e = omega arith

-- what a check said, by its answer
module _ {T : Type 0} {r : Result T Refusal} {n : ℕ} (said : refusal_number r ≡ n) where
  pub refused-by : {x : Refusal} → r ≡ Err x → number_of x ≡ n
  refused-by is = rw is at said

  pub taken-by : {a : T} → r ≡ Ok a → 0 ≡ n
  taken-by is = rw is at said

-- what is there, or an error
module _ {T : Type 0} {E : Type 0} (x : E) where
  pub none-or : (o : Option T) {r : Result T E} {y : E} → r ≡ ok_or o x → r ≡ Err y → (o ≡ None) × (x ≡ y)
  none-or None e is = (cc, cc)
  none-or (Some a) e is = (cc, cc)

  pub some-or : (o : Option T) {r : Result T E} {a : T} → r ≡ ok_or o x → r ≡ Ok a → o ≡ Some a
  some-or None e is = cc
  some-or (Some b) e is = cc
