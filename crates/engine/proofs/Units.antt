-- Units fall: what the engine's own definitions leave of them, and so what the code's answers have left, from the equation
-- that holds an answer to its definition. Assumes nothing.
use mathlib.Core.Path.{◌≡◌, sym}
use mathlib.Core.Bool.{true, false}
use Rattle.std.specs.Prelude.{Result, Ok}
use mathlib.Core.List.{List}
use Prim.Native.Nat.{ℕ, zero, suc, ◌≤◌, ◌<◌}
use native.Mathlib.Omega.{arith}
use Rattle.rules.specs.Chart.{State, Segment, Chart, Block, Instruction, condition_action, during, inner, outer}
use Rattle.rules.specs.Doing.{Now, Doing, ◌>>=◌, pay, Act, item_of, note}
use Rattle.rules.specs.Block.{Stack}
use Rattle.rules.specs.Search.{Found, reached, nowhere, ended, run_abandoned}
use Rattle.rules.proofs.Closing.{no_send-has, instruct-has}
use Rattle.rules.proofs.Keeping.{Keeps}
use Rattle.rules.proofs.Spending.{pay-strict, both-went, Spends, spends, give-spends, refuse-spends, bind-spends, then-spends}
use Rattle.rules.proofs.Spending.{if-spends, pay-then-strict, note-spends, send_from-spends, perform-spends, passes-spends, search-spends, fire-spends, send-spends}
use Rattle.rules.specs.declared.refusals.Refusal.{Refusal}
use Rattle.doing.specs.Held.{noted}
use Rattle.doing.specs.Outcomes.{outcome_of}
use Rattle.blocks.specs.Code.{instructed, paid_for}
use Rattle.engine.specs.declared.cycle.Tried.TheVariants.{Failed}
use Rattle.engine.specs.Told.{tested, paid_send, acted, passing, passing_within, tried, ending, followed, inside_alone, run_alone}

-- fewer units are left where it goes on
abbrev pub Falls : {A : Type 0} → Doing A → Type 0
Falls m = Keeps (λ n n'. n'.units < n.units) m

-- what begins so goes on with fewer units
bind-falls : {A B : Type 0} (f : A → Doing B) → ((a : A) → Spends (f a)) → {m : Doing A} → Falls m → Falls (m >>= f)
unfolding ◌>>=◌
bind-falls f sf {m} fm =
    record { at = λ n b n' e. both-went (m n) f b n' e (λ a n₁ e₁ e₂. omega (arith, fm.at n a n₁ e₁, (sf a).at n₁ b n' e₂)) }

-- an instruction of a block, and what the engine's own definitions do
pub paid_for-spends : (i : Instruction) (st : Stack) → Spends (paid_for i st)
unfolding paid_for instructed
paid_for-spends i st = then-spends spends.pays (instruct-has spends (no_send-has spends) i.op i st)

module _ (c : Chart) where
  pub tested-falls : (e : ℕ) (t : Segment) → Falls (tested c e t)
  unfolding tested
  tested-falls e t = record { at = pay-then-strict (passes-spends c e t) }

  module _ (n : ℕ) where
    pub paid_send-falls : (owner : State) (i : Instruction) → Falls (paid_send c n owner i)
    unfolding paid_send
    paid_send-falls owner i = record { at = pay-then-strict (send_from-spends owner (send-spends c n) _ _) }

    pub acted-spends : (owner : State) (k : Block) → Spends (acted c n owner k)
    unfolding acted
    acted-spends owner k = bind-spends (perform-spends (send_from-spends owner (send-spends c n)) _ _) (λ r. give-spends _)

    passing-spends : (owner : State) (t : Segment) → Spends (passing c n owner t)
    unfolding passing
    passing-spends owner t = then-spends (note-spends _ _) (acted-spends owner (condition_action c t))

    passing_within-spends : (m : ℕ) (owner : State) (t : Segment) → Spends (passing_within c n m owner t)
    unfolding passing_within
    passing_within-spends zero owner t = refuse-spends 19
    passing_within-spends (suc m) owner t = bind-spends (passing-spends owner t) (λ b. give-spends _)

    module _ (e : ℕ) where
      pub tried-falls : (owner : State) (m : ℕ) (t : Segment) → Falls (tried c n e owner m t)
      unfolding tried
      tried-falls owner m t =
          bind-falls _ (λ b. if-spends b (passing_within-spends m owner t) (give-spends Failed)) (tested-falls e t)

      ending-spends : (p : State) (o : Found) → Spends (ending c n e p o)
      unfolding ending
      ending-spends p (reached s path) = then-spends (fire-spends c p s path) (give-spends true)
      ending-spends p nowhere = give-spends false
      ending-spends p ended = give-spends false
      ending-spends p run_abandoned = give-spends true

      pub followed-spends : (p : State) (ts : List Segment) → Spends (followed c n e p ts)
      unfolding followed
      followed-spends p ts = bind-spends (search-spends c (send-spends c n) e p ts) (ending-spends p)

      inside_alone-spends : (p : State) → Spends (inside_alone c n e p)
      unfolding inside_alone
      inside_alone-spends p =
          then-spends (note-spends _ _)
          (bind-spends (acted-spends p (during c p)) (λ b. if-spends b (give-spends true) (followed-spends p (inner c p))))

      pub run_alone-falls : (p : State) → Falls (run_alone c n e p)
      unfolding run_alone
      run_alone-falls p =
          record
          { at = pay-then-strict (bind-spends (followed-spends p (outer c p)) (λ b. if-spends b (give-spends true) (inside_alone-spends p))) }

-- what a doing keeps from before to after it, its answer keeps
pub kept : {A : Type 0} {R : Now → Now → Type 0} {m : Doing A} → Keeps R m → (n n' : Now) {r : Result A Refusal} → outcome_of r n' ≡ m n
    → {a : A} → r ≡ Ok a → R n n'
kept keeps n n' says is = keeps.at n _ n' (sym (rw is at says))

-- a unit paid
pub paid-less : (n n' : Now) {r : Result (Unit {0}) Refusal} → outcome_of r n' ≡ pay n → {u : Unit {0}} → r ≡ Ok u → n'.units < n.units
paid-less n n' says is = kept (record { at = pay-strict }) n n' says is

-- an item noted
pub noted-keeps : (act : Act) (k : ℕ) (n n' : Now) {r : Result (Unit {0}) Refusal} → outcome_of r n' ≡ noted (item_of act k) n
    → {u : Unit {0}} → r ≡ Ok u → n'.units ≤ n.units
unfolding noted note
noted-keeps act k n n' says is = kept (note-spends act k) n n' says is
