-- No doing gives units back: what goes on does so with as many units or fewer, a relation that all the rules keep; and what
-- begins with a pay does so with fewer. Assumes nothing.
use mathlib.Core.Path.{◌≡◌}
use mathlib.Core.Bool.{Bool}
use mathlib.Core.List.{List}
use Prim.Native.Nat.{ℕ, ◌≤◌, ◌<◌}
use native.Mathlib.Omega.{arith}
use Rattle.rules.specs.Lists.{when◌then◌else◌}
use Rattle.rules.specs.Chart.{State, Segment, Chart, Instruction}
use Rattle.rules.specs.Doing.{Now, went, Doing, give, refuse, ◌>>=◌, ◌>>◌, pay, Act, note}
use Rattle.rules.specs.Block.{Stack, Delivery, SendOp, send_from, perform}
use Rattle.rules.specs.Search.{passes, search}
use Rattle.rules.specs.Fire.{fire}
use Rattle.rules.specs.Run.{send, step}
use Rattle.rules.proofs.Closing.{Closed, ◌>>◌ as then-has, if-has, send_from-has, perform-has, passes-has, search-has, fire-has, send-has, step-has}
use Rattle.rules.proofs.Keeping.{Keeps, Lawful, paid-keeps, refuse-keeps, keeps-closed}
pub use Rattle.rules.proofs.Keeping.{both-went}

abbrev pub Fewer : Now → Now → Type 0
Fewer n n' = n'.units ≤ n.units

abbrev pub Spends : {A : Type 0} → Doing A → Type 0
Spends m = Keeps Fewer m

fewer : Lawful Fewer
fewer =
    record {
      same = λ n. omega arith;
      both = λ n n₁ n' p q. omega arith;
      paid = λ n u e. omega arith;
      noted = λ n r i e. omega arith;
      changed = λ n im. omega arith;
    }

pub spends : Closed (λ A m. Spends m)
spends = keeps-closed fewer

-- the doings and the ways to join them

module _ {A : Type 0} where
  pub give-spends : (a : A) → Spends (give a)
  give-spends a = spends.gives a

  pub refuse-spends : (k : ℕ) → Spends (refuse {A = A} k)
  refuse-spends k = refuse-keeps Fewer k

  pub if-spends : {m k : Doing A} (t : Bool) → Spends m → Spends k → Spends (when t then m else k)
  if-spends t sm sk = if-has spends t sm sk

pub note-spends : (act : Act) (k : ℕ) → Spends (note act k)
note-spends act k = spends.notes act k

module _ {A B : Type 0} where
  pub bind-spends : {m : Doing A} {f : A → Doing B} → Spends m → ((a : A) → Spends (f a)) → Spends (m >>= f)
  bind-spends sm sf = spends.binds sm sf

  pub then-spends : {m : Doing A} {k : Doing B} → Spends m → Spends k → Spends (m >> k)
  then-spends sm sk = then-has spends sm sk

-- one unit goes
pub pay-strict : (n : Now) (a : Unit {0}) (n' : Now) → pay n ≡ went a n' → n'.units < n.units
pay-strict = (paid-keeps (λ n n'. n'.units < n.units) (λ n u e. omega arith)).at

-- what begins with a pay goes on with fewer units
pub pay-then-strict : {A : Type 0} {m : Doing A} → Spends m → (n : Now) (a : A) (n' : Now) → (pay >> m) n ≡ went a n'
    → n'.units < n.units
unfolding ◌>>◌
pay-then-strict {m = m} sm n a n' e =
    both-went (pay n) (λ _. m) a n' e (λ x n₁ e₁ e₂. omega (arith, pay-strict n x n₁ e₁, sm.at n₁ a n' e₂))

-- the definitions of the rules

pub send_from-spends : (owner : State) {deliver : Delivery} → ((e : ℕ) (b : State) → Spends (deliver e b))
    → (e : ℕ) (b : State) → Spends (send_from owner deliver e b)
send_from-spends owner ss e b = send_from-has spends ss owner e b

pub perform-spends : {send_op : SendOp} → ((e : ℕ) (b : State) → Spends (send_op e b))
    → (st : Stack) (is : List Instruction) → Spends (perform send_op st is)
perform-spends ss st is = perform-has spends ss st is

module _ (c : Chart) where
  pub passes-spends : (e : ℕ) (t : Segment) → Spends (passes c e t)
  passes-spends e t = passes-has spends c e t

  pub search-spends : {deliver : Delivery} → ((e : ℕ) (b : State) → Spends (deliver e b))
      → (e : ℕ) (source : State) (ts : List Segment) → Spends (search c deliver e source ts)
  search-spends ss e source ts = search-has spends c ss e source ts

  pub fire-spends : (source target : State) (path : List Segment) → Spends (fire c source target path)
  fire-spends source target path = fire-has spends c source target path

  pub send-spends : (n e : ℕ) (b : State) → Spends (send c n e b)
  send-spends n e b = send-has spends c n e b

  pub step-spends : (e : ℕ) → Spends (step c e)
  step-spends e = step-has spends c e
