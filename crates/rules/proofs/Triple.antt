-- A doing as a triple: P of the image before, Q of the answer and the image after, and at most b units for it. The units are
-- promised only under B, that the chart has a bound: then no more than b go, and with b or more it is not refused for want of
-- them. One rule for each way in which doings are made, named t-.. after it, so that each definition of the rules is gone
-- through once, for the shape and for the units. Assumes nothing.
use mathlib.Core.Path.{◌≡◌, refl}
use mathlib.Core.Logic.{inl, inr}
use mathlib.Core.Bool.{Bool, true, false}
use mathlib.Core.List.Memᴰ
use mathlib.Core.List.{List, [], ◌∷◌}
use Prim.Native.Nat.{ℕ, zero, suc, ◌+◌, ◌≤◌}
use native.Mathlib.Omega.{arith}
use Rattle.rules.specs.Lists.{when◌then◌else◌, sum_over}
use Rattle.rules.specs.Chart.{State}
use Rattle.rules.specs.Image.{Image, is_active}
use Rattle.rules.specs.Doing.{Now, Outcome, refused, went, Doing, Done, give, done, refuse, because, after, ◌>>=◌, ◌>>◌, look, change, pay_from, pay, Act, item_of, note_in, note, each, when_active}
use Rattle.rules.proofs.Laws.{two}
use Rattle.rules.proofs.Members.{Mem}

-- what may hold of an image, and that one such gives another
abbrev pub Claim : Type 1
Claim = Image → Type 0

infix 5 ◌⇒◌
abbrev pub ◌⇒◌ : Claim → Claim → Type 0
P ⇒ Q = (im : Image) → P im → Q im

-- how it may end, of u units
abbrev pub Ended : {A : Type 0} → Type 0 → ℕ → ℕ → (A → Claim) → Outcome A → Type 0
Ended B b u Q (refused r) = B → b ≤ u → r.number ≡ 16 → ⊥
Ended B b u Q (went a n) = Q a n.image × (B → u ≤ n.units + b)

pub record Triple {A : Type 0} (B : Type 0) (b : ℕ) (P : Claim) (m : Doing A) (Q : A → Claim) : Type 0 where
  pub at : (n : Now) → P n.image → Ended B b n.units Q (m n)

-- from b of u units to b' of u'
ended-weak : {A B : Type 0} {Q Q' : A → Claim} (b b' u u' : ℕ) → (B → u' + b ≤ u + b') → ((a : A) → Q a ⇒ Q' a)
    → (o : Outcome A) → Ended B b u Q o → Ended B b' u' Q' o
ended-weak b b' u u' l h (refused r) e = λ x k. e x (omega (arith, l x))
ended-weak b b' u u' l h (went a n) e = (h a n.image e.0, λ x. omega (arith, e.1 x, l x))

module _ {A B : Type 0} {b : ℕ} {P : Claim} {Q : A → Claim} where
  module _ {m : Doing A} where
    weaker : {b' : ℕ} {P' : Claim} {Q' : A → Claim} → (B → b ≤ b') → P' ⇒ P → ((a : A) → Q a ⇒ Q' a) → Triple B b P m Q
        → Triple B b' P' m Q'
    weaker {b'} l f g t =
        record {
          at = λ n p. ended-weak b b' n.units n.units (λ x. omega (arith, l x)) g (m n) (t.at n (f n.image p));
        }

    -- more is asked before, or less is had after
    pub t-weak : {P' : Claim} {Q' : A → Claim} → P' ⇒ P → ((a : A) → Q a ⇒ Q' a) → Triple B b P m Q → Triple B b P' m Q'
    t-weak f g t = weaker (λ x. omega arith) f g t

    pub t-pre : {P' : Claim} → P' ⇒ P → Triple B b P m Q → Triple B b P' m Q
    t-pre f t = t-weak f (λ a im q. q) t

    pub t-post : {Q' : A → Claim} → ((a : A) → Q a ⇒ Q' a) → Triple B b P m Q → Triple B b P m Q'
    t-post g t = t-weak (λ im p. p) g t

    -- more units are enough too
    pub t-more : {b' : ℕ} → (B → b ≤ b') → Triple B b P m Q → Triple B b' P m Q
    t-more l t = weaker l (λ im p. p) (λ a im q. q) t

    -- for each image as it is before
    pub t_from : ((im₀ : Image) → P im₀ → Triple B b (λ im. im ≡ im₀) m Q) → Triple B b P m Q
    t_from f = record { at = λ n p. (f n.image p).at n refl }

    -- what is asked before and says nothing of the image
    pub t-given : {F : Type 0} → (F → Triple B b P m Q) → Triple B b (λ im. F × P im) m Q
    t-given f = record { at = λ n p. (f p.0).at n p.1 }

  pub t-give : (a : A) → P ⇒ Q a → Triple B b P (give a) Q
  unfolding give
  t-give a f = record { at = λ n p. (f n.image p, λ x. omega arith) }

  pub t-refuse : (k : ℕ) → (k ≡ 16 → ⊥) → Triple B b P (refuse k) Q
  unfolding refuse because
  t-refuse k h = record { at = λ n p x l. h }

  pub t-if : {m k : Doing A} (t : Bool) → (t ≡ true → Triple B b P m Q) → (t ≡ false → Triple B b P k Q)
      → Triple B b P (when t then m else k) Q
  unfolding when◌then◌else◌
  t-if true tm tk = tm refl
  t-if false tm tk = tk refl

  -- by a test of the image
  pub t-test : {m k : Doing A} (f : Image → Bool) → Triple B b (λ im. (f im ≡ true) × P im) m Q
      → Triple B b (λ im. (f im ≡ false) × P im) k Q → Triple B b P (λ n. when f n.image then m n else k n) Q
  unfolding when◌then◌else◌
  t-test f tm tk =
      record {
        at = λ n p. elim (two (f n.image)) [ inl e ↦ rw e (tm.at n (e, p)) | inr e ↦ rw e (tk.at n (e, p)) ];
      }

-- what holds stays as it is
pub t_same : {A B : Type 0} {b : ℕ} {Q : A → Claim} (a : A) → Triple B b (Q a) (give a) Q
t_same a = t-give a (λ im q. q)

ended-bind : {A C B : Type 0} {R : A → Claim} {Q : C → Claim} (b b' u : ℕ) (f : A → Doing C)
    → ((a : A) → Triple B b' (R a) (f a) Q) → (o : Outcome A) → Ended B b u R o → Ended B (b + b') u Q (after o f)
ended-bind b b' u f tf (refused r) e = λ x l. e x (omega arith)
ended-bind b b' u f tf (went a n) e =
    ended-weak b' (b + b') n.units u (λ x. omega (arith, e.1 x)) (λ a im q. q) (f a n) ((tf a).at n e.0)

module _ {A C B : Type 0} {b b' : ℕ} {P : Claim} {Q : C → Claim} {m : Doing A} where
  pub t-bind : {R : A → Claim} {f : A → Doing C} → Triple B b P m R → ((a : A) → Triple B b' (R a) (f a) Q)
      → Triple B (b + b') P (m >>= f) Q
  unfolding ◌>>=◌
  t-bind {f = f} tm tf = record { at = λ n p. ended-bind b b' n.units f tf (m n) (tm.at n p) }

  -- the first one's answer is not used
  pub t-then : {R : Claim} {k : Doing C} → Triple B b P m (λ _. R) → Triple B b' R k Q → Triple B (b + b') P (m >> k) Q
  unfolding ◌>>◌ ◌>>=◌
  t-then {k = k} tm tk = t-bind {f = λ _. k} tm (λ _. tk)

module _ {B : Type 0} {P : Claim} where
  pub t-done : {b : ℕ} → Triple B b P done (λ _. P)
  unfolding done
  t-done = t_same tt

  pub t-change : {Q : Claim} (f : Image → Image) → ((im : Image) → P im → Q (f im)) → Triple B 0 P (change f) (λ _. Q)
  unfolding change
  t-change f h = record { at = λ n p. (h n.image p, λ x. omega arith) }

  pub t-look : Triple B 0 P look (λ a im. (a ≡ im) × P im)
  unfolding look
  t-look = record { at = λ n p. ((refl, p), λ x. omega arith) }

  pub t-pay : Triple B 1 P pay (λ _. P)
  unfolding pay
  t-pay =
      record {
        at = λ n p. elim n.units as (λ u. Ended B 1 u (λ (_ : Unit {0}). P) (pay_from u n))
            [ zero ↦ λ x l. absurd (omega arith) | suc u ↦ (p, λ x. omega arith) ];
      }

  pub t-note : (act : Act) (k : ℕ) → Triple B 0 P (note act k) (λ _. P)
  unfolding note because
  t-note act k =
      record {
        at = λ n p. elim n.room as (λ r. Ended B 0 n.units (λ (_ : Unit {0}). P) (note_in r (item_of act k) n))
            [ zero ↦ λ x l e. omega arith | suc r ↦ (p, λ x. omega arith) ];
      }

  pub t-active : {b : ℕ} {Q : Claim} {m : Done} (s : State) → Triple B b (λ im. (is_active im s ≡ true) × P im) m (λ _. Q)
      → ((im : Image) → is_active im s ≡ false → P im → Q im) → Triple B b P (when_active s m) (λ _. Q)
  unfolding when_active done
  t-active s t g = t-test (λ im. is_active im s) t (t-give tt (λ im p. g im p.0 p.1))

  -- each of a list in turn
  pub t-each-in : (w : ℕ → ℕ) (f : ℕ → Done) (xs : List ℕ) → ((x : ℕ) → Mem x xs → Triple B (w x) P (f x) (λ _. P))
      → Triple B (sum_over w xs) P (each f xs) (λ _. P)
  unfolding each sum_over
  t-each-in w f [] h = t-done
  t-each-in w f (x ∷ xs) h = t-then (h x (Memᴰ.head refl)) (t-each-in w f xs (λ y m. h y (Memᴰ.tail m)))

-- the same, where what holds goes by what is left of the list
pub t-each : {B : Type 0} (w : ℕ → ℕ) (I : List ℕ → Claim) (f : ℕ → Done)
    → ((x : ℕ) (xs : List ℕ) → Triple B (w x) (I (x ∷ xs)) (f x) (λ _. I xs)) → (xs : List ℕ)
    → Triple B (sum_over w xs) (I xs) (each f xs) (λ _. I [])
unfolding each sum_over
t-each w I f h [] = t-done
t-each w I f h (x ∷ xs) = t-then (h x xs) (t-each w I f h xs)
