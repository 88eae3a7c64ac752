-- One instruction, as the rules perform it: one law for each way in which the code answers. Assumes nothing.
use mathlib.Core.Path.{◌≡◌, refl, sym}
use mathlib.Core.Bool.{Bool, true, false}
use mathlib.Core.List.{[], ◌∷◌}
use mathlib.Core.Logic.{◌⊎◌, inl, inr}
use Prim.Native.Nat.{ℕ}
use lib.ListN.{drop}
use lib.IntN.{ℤ}
use Rattle.std.specs.Prelude.{Option, Some, None, Result, Ok, Err, ok_or}
use Rattle.std.specs.Result.{IsErrAnd, result_ok}
use Rattle.std.proofs.lemmas.Result.{err_from_is_err_and}
use Rattle.rules.specs.Bytes.{truth, is_zero}
use Rattle.rules.specs.Lists.{when◌then◌else◌}
use Rattle.rules.specs.Chart.{Instruction}
use Rattle.rules.specs.Image.{variable, set_variable}
use Rattle.rules.specs.Doing.{Now, went, Doing, give, refuse, after, ◌>>=◌, ◌>>◌, look, change, note}
use Rattle.rules.specs.Block.{Stack, Ran, ran, top, lower, ◌onto◌, binary, checked, divided, no_send, instruct}
use Rattle.rules.specs.Types.{word_of}
use Rattle.rules.specs.declared.items.Item.TheVariants.{Raised}
use Rattle.rules.specs.declared.refusals.Refusal.{Refusal}
use Rattle.rules.specs.declared.refusals.Refusal.TheVariants.{Arithmetic}
use Rattle.chart.specs.Read.{op_meant}
use Rattle.chart.specs.declared.ops.Op.{Op}
use Rattle.chart.specs.declared.ops.Op.TheVariants.{Push, Load, Store, Not, Raise, Send, Unknown}
use Rattle.doing.specs.Held.{noted}
use Rattle.doing.specs.Outcomes.{outcome_of, with_image}
use Rattle.blocks.specs.declared.values.Binary.{Binary}
use Rattle.blocks.specs.declared.values.Binary.TheVariants.{Add, Subtract, Multiply, Quotient, Remainder, Less, Equal}
use Rattle.blocks.specs.Code.{instructed}
use Rattle.blocks.specs.Performed.{ran_of}
use Rattle.blocks.specs.Values.{within32, quotient_of, remainder_of, combined, binary_meant}

-- what a binary op makes of its answer
unfoldable pub answered : Stack → Option ℤ → Doing Ran
answered st (Some v) = give (ran (v onto drop 2 st))
answered st None = refuse 17

if-within : (st : Stack) (z : ℤ) (b : Bool)
    → (when b then give (ran (z onto drop 2 st)) else refuse 17) ≡ answered st (when b then Some z else None)
unfolding when◌then◌else◌ answered
if-within st z true = refl
if-within st z false = refl

if-divided : (st : Stack) (m : Doing Ran) (x : Option ℤ) → m ≡ answered st x
    → (b : Bool) → (when b then refuse 17 else m) ≡ answered st (when b then None else x)
unfolding when◌then◌else◌ answered
if-divided st m x e true = refl
if-divided st m x e false = e

pub answers : (o : Binary) (i : Instruction) (st : Stack)
    → instruct no_send (binary_meant o) i st ≡ answered st (combined o (lower st) (top st))
unfolding instruct checked binary divided combined within32 quotient_of remainder_of answered
answers Add i st = if-within st _ _
answers Subtract i st = if-within st _ _
answers Multiply i st = if-within st _ _
answers Quotient i st = if-divided st _ _ (if-within st _ _) _
answers Remainder i st = if-divided st _ _ refl _
answers Less i st = refl
answers Equal i st = refl

-- the second value is the top of what the first leaves
pub lower-is : (st : Stack) → top (drop 1 st) ≡ lower st
unfolding top lower
lower-is [] = refl
lower-is (x ∷ st) = refl

two-less : (st : Stack) → drop 1 (drop 1 st) ≡ drop 2 st
two-less [] = refl
two-less (x ∷ st) = refl

-- the error where there is none
the-error : {r : Option ℤ} {told : Result ℤ Refusal} → told ≡ ok_or r Arithmetic → r ≡ None → {why : Refusal} → told ≡ Err why → why ≡ Arithmetic
the-error {r} {told} value none err =
    let two : told ≡ Err Arithmetic = rw none at value in cc

-- the values of the stack that are combined, and their answer, an error where there is none
module _ (o : Binary) (i : Instruction) (st : Stack) (n : Now) {x y : ℤ} (below : x ≡ lower st) (upper : y ≡ top st)
    {r : Option ℤ} (is : r ≡ combined o x y) where
  combines : answered st r n ≡ instruct no_send (binary_meant o) i st n
  combines = rw (answers o i st, is, upper, below)

  module _ {told : Result ℤ Refusal} (some : r ≡ result_ok told) where
    pub binary-is : {v : ℤ} → told ≡ Ok v → {rest more : Stack} → rest ≡ drop 2 st → more ≡ (v onto rest)
        → went (ran more) n ≡ instruct no_send (binary_meant o) i st n
    unfolding answered give
    binary-is ok less e = rw (e, less) (rw (some, ok) at combines)

    pub binary-outside : {why : Refusal} → told ≡ Err why → told ≡ ok_or r Arithmetic → (all : Result (Unit {0}) Refusal) (more : Stack)
        → IsErrAnd all (λ e. e ≡ why) → ran_of all more n ≡ instruct no_send (binary_meant o) i st n
    unfolding answered refuse
    binary-outside err value all more same =
        let p = err_from_is_err_and all same in
        let none : r ≡ None = rw err at some in
        rw (p.1, p.2, the-error value none err) (rw none at combines)

-- an item is noted or not, and the stack stays
stays : (r : Result (Unit {0}) Refusal) (st : Stack) (n : Now) → ran_of r st n ≡ after (outcome_of r n) (λ _. give (ran st))
unfolding give
stays (Err why) st n = refl
stays (Ok u) st n = refl

-- each by its op, which the code tells
module _ (i : Instruction) (st : Stack) (n : Now) {p : Op} (means : op_meant p ≡ i.op) where
  pub as-told : {o : Op} → p ≡ o → instruct no_send (op_meant o) i st n ≡ instructed i st n
  unfolding instructed
  as-told told = rw (sym means, told)

  pub pushed : {v : ℤ} {more : Stack} → p ≡ Push → v ≡ i.b → more ≡ (v onto st) → went (ran more) n ≡ instructed i st n
  unfolding instruct give
  pushed told e over = rw (over, e) (as-told told)

  pub loaded : {v : ℤ} {a : ℕ} {more : Stack} → p ≡ Load → v ≡ variable n.image a → a ≡ i.a → more ≡ (v onto st)
      → went (ran more) n ≡ instructed i st n
  unfolding instruct ◌>>=◌ look give
  loaded told e same over = rw (over, e, same) (as-told told)

  pub stored : {later : Now} {z : ℤ} {a : ℕ} {rest : Stack} → p ≡ Store → later ≡ with_image (set_variable n.image a z) n → z ≡ top st
      → a ≡ i.a → rest ≡ drop 1 st → went (ran rest) later ≡ instructed i st n
  unfolding instruct change ◌>>◌ give
  stored told set e same less = rw (set, e, same, less) (as-told told)

  pub negated : {v z : ℤ} {rest more : Stack} → p ≡ Not → v ≡ truth (is_zero z) → z ≡ top st → rest ≡ drop 1 st → more ≡ (v onto rest)
      → went (ran more) n ≡ instructed i st n
  unfolding instruct give
  negated told e is less over = rw (over, e, is, less) (as-told told)

  pub raised : (r : Result (Unit {0}) Refusal) (later : Now) {a : ℕ} → p ≡ Raise → outcome_of r later ≡ noted (word_of (Raised a)) n
      → a ≡ i.a → ran_of r st later ≡ instructed i st n
  unfolding instruct ◌>>◌ noted note
  raised r later told e same = rw (stays r st later, e, same) (as-told told)

  barred : p ≡ Send → went (ran st) n ≡ instructed i st n
  unfolding instruct no_send ◌>>=◌ give when◌then◌else◌
  barred told = as-told told

  ignored : p ≡ Unknown → went (ran st) n ≡ instructed i st n
  unfolding instruct give
  ignored told = as-told told

  pub nothing-done : (p ≡ Send) ⊎ (p ≡ Unknown) → went (ran st) n ≡ instructed i st n
  nothing-done (inl told) = barred told
  nothing-done (inr told) = ignored told
