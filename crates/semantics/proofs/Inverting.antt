-- A doing that went, taken apart and put together: for each way in which doings are made, `..-inv` has the parts of what went,
-- and `..-goes` the whole of parts that did. And what a triple says of one that went. Assumes nothing.
use mathlib.Core.Path.{◌≡◌, refl}
use mathlib.Core.Logic.{◌⊎◌, inl, inr}
use mathlib.Core.Bool.{Bool, true, false}
use mathlib.Core.List.{List, [], ◌∷◌}
use Prim.Native.Nat.{ℕ}
use native.Mathlib.Omega.{arith}
use Rattle.rules.specs.Lists.{when◌then◌else◌}
use Rattle.rules.specs.Chart.{State}
use Rattle.rules.specs.Image.{Image, is_active}
use Rattle.rules.specs.Doing.{Refusal, Now, Outcome, refused, went, Doing, Done, give, done, refuse, after, ◌>>=◌, ◌>>◌, look, pay, Act, note, each, when_active}
use Rattle.rules.proofs.Triple.{Claim, Triple, t-pay, t-note}
use Rattle.semantics.specs.Relation.{Gives, Goes}

pub stuck : {A B : Type 0} {r : Refusal} {a : A} {n : Now} → refused r ≡ went a n → B
stuck e = let z : ◌≡◌ {A = ℕ} 0 1 = cc in absurd (omega arith)

-- what goes goes to one place
pub one_place : {A : Type 0} (m : Doing A) {n n₁ n₂ : Now} {a b : A} → Gives m n a n₁ → Gives m n b n₂ → n₁ ≡ n₂
one_place m x y = let p = x.is in let q = y.is in cc

-- what held before by a triple, holds after by it
pub kept : {A B : Type 0} {b : ℕ} {P : Claim} {Q : A → Claim} {m : Doing A} {n n' : Now} {a : A} → Triple B b P m Q
    → Gives m n a n' → P n.image → Q a n'.image
kept {n = n} t w p = (rw w.is at (t.at n p)).0

-- a unit or an item changes nothing of the image
pub paid : (P : Claim) {n n' : Now} → Goes pay n n' → P n.image → P n'.image
paid P w p = kept (t-pay {B = Unit {0}} {P = P}) w p

pub noted : (P : Claim) (act : Act) (k : ℕ) {n n' : Now} → Goes (note act k) n n' → P n.image → P n'.image
noted P act k w p = kept (t-note {B = Unit {0}} {P = P} act k) w p

-- m gave an answer at a configuration between, and f went on from there
pub record Between {A B : Type 0} (m : Doing A) (f : A → Doing B) (n : Now) (b : B) (n' : Now) : Type 0 where
  pub gave : A
  pub mid : Now
  pub before : Gives m n gave mid
  pub behind : Gives (f gave) mid b n'

between : {A B : Type 0} (m : Doing A) (f : A → Doing B) (n : Now) {b : B} {n' : Now} (o : Outcome A) → m n ≡ o
    → after o f ≡ went b n' → Between m f n b n'
between m f n (refused r) q e = stuck e
between m f n (went a n₁) q e = record { gave = a; mid = n₁; before = record { is = q }; behind = record { is = e } }

module _ {A B : Type 0} where
  pub bind_inv : (m : Doing A) (f : A → Doing B) {n : Now} {b : B} {n' : Now} → Gives (m >>= f) n b n' → Between m f n b n'
  unfolding ◌>>=◌
  bind_inv m f {n} e = between m f n (m n) refl e.is

  pub then-inv : (m : Doing A) (k : Doing B) {n : Now} {b : B} {n' : Now} → Gives (m >> k) n b n' → Between m (λ _. k) n b n'
  unfolding ◌>>◌
  then-inv m k {n} e = between m (λ _. k) n (m n) refl e.is

  pub bind_goes : {m : Doing A} (f : A → Doing B) {n n₁ n' : Now} {a : A} {b : B} → Gives m n a n₁ → Gives (f a) n₁ b n'
      → Gives (m >>= f) n b n'
  unfolding ◌>>=◌
  bind_goes f p q = record { is = rw p.is q.is }

  pub then-goes : {m : Doing A} {k : Doing B} {n n₁ n' : Now} {a : A} {b : B} → Gives m n a n₁ → Gives k n₁ b n'
      → Gives (m >> k) n b n'
  unfolding ◌>>◌
  then-goes p q = record { is = rw p.is q.is }

pub give-inv : {A : Type 0} {a b : A} {n n' : Now} → Gives (give a) n b n' → (a ≡ b) × (n ≡ n')
unfolding give
give-inv e = let q = e.is in (cc, cc)

pub give-goes : {A : Type 0} {a : A} {n : Now} → Gives (give a) n a n
unfolding give
give-goes = record { is = refl }

pub done-inv : {n n' : Now} → Goes done n n' → n ≡ n'
unfolding done
done-inv e = (give-inv e).1

pub done-goes : {n : Now} → Goes done n n
unfolding done
done-goes = give-goes

pub refuse-inv : {A B : Type 0} (k : ℕ) {a : A} {n n' : Now} → Gives (refuse k) n a n' → B
unfolding refuse
refuse-inv k e = stuck e.is

pub look-inv : {im : Image} {n n' : Now} → Gives look n im n' → (im ≡ n.image) × (n' ≡ n)
unfolding look
look-inv e = let q = e.is in (cc, cc)

pub look-goes : {n : Now} → Gives look n n.image n
unfolding look
look-goes = record { is = refl }

-- one of two
pub choose-inv : {A : Type 0} (b : Bool) (x y : Doing A) {a : A} {n n' : Now} → Gives (when b then x else y) n a n'
    → ((b ≡ true) × Gives x n a n') ⊎ ((b ≡ false) × Gives y n a n')
unfolding when◌then◌else◌
choose-inv true x y w = inl (refl, w)
choose-inv false x y w = inr (refl, w)

pub yes-goes : {A : Type 0} (b : Bool) (x y : Doing A) {a : A} {n n' : Now} → b ≡ true → Gives x n a n'
    → Gives (when b then x else y) n a n'
unfolding when◌then◌else◌
yes-goes b x y e w = rw e w

pub no-goes : {A : Type 0} (b : Bool) (x y : Doing A) {a : A} {n n' : Now} → b ≡ false → Gives y n a n'
    → Gives (when b then x else y) n a n'
unfolding when◌then◌else◌
no-goes b x y e w = rw e w

module _ (s : State) (m : Done) {n n' : Now} where
  pub active-inv : is_active n.image s ≡ true → Goes (when_active s m) n n' → Goes m n n'
  unfolding when_active when◌then◌else◌
  active-inv e w = record { is = rw e at w.is }

  pub idle-inv : is_active n.image s ≡ false → Goes (when_active s m) n n' → n ≡ n'
  unfolding when_active when◌then◌else◌
  idle-inv e w = done-inv (record { is = rw e at w.is })

  pub active-goes : is_active n.image s ≡ true → Goes m n n' → Goes (when_active s m) n n'
  unfolding when_active when◌then◌else◌
  active-goes e w = record { is = rw e w.is }

pub idle-goes : (s : State) (m : Done) {n : Now} → is_active n.image s ≡ false → Goes (when_active s m) n n
unfolding when_active when◌then◌else◌
idle-goes s m e = record { is = rw e done-goes.is }

-- each of a list
pub none-inv : (f : ℕ → Done) {n n' : Now} → Goes (each f []) n n' → n ≡ n'
unfolding each
none-inv f w = done-inv w

pub none-goes : (f : ℕ → Done) {n : Now} → Goes (each f []) n n
unfolding each
none-goes f = done-goes

pub more-inv : (f : ℕ → Done) (x : ℕ) (xs : List ℕ) {n n' : Now} → Goes (each f (x ∷ xs)) n n'
    → Between (f x) (λ _. each f xs) n tt n'
unfolding each
more-inv f x xs w = then-inv _ _ w

pub more-goes : (f : ℕ → Done) (x : ℕ) (xs : List ℕ) {n n₁ n' : Now} → Goes (f x) n n₁ → Goes (each f xs) n₁ n'
    → Goes (each f (x ∷ xs)) n n'
unfolding each
more-goes f x xs p q = then-goes p q
