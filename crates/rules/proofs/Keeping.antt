-- Relations of before and after that all the rules keep: a paid unit, a noted item and a change of the image have to keep
-- one, and it has to join. To keep it is then closed under the ways doings are made. Assumes nothing.
use mathlib.Core.Path.{◌≡◌, refl, subst}
use mathlib.Core.List.{[], ◌∷◌, ◌++◌}
use Prim.Native.Nat.{ℕ, zero, suc}
use native.Mathlib.Omega.{arith}
use Rattle.rules.specs.Image.{Image}
use Rattle.rules.specs.Doing.{Refusal, Now, Outcome, refused, went, Doing, give, refuse, after, ◌>>=◌, look, change, pay_from, pay, item_of, note_in, note}
use Rattle.rules.proofs.Closing.{Closed}

-- where the doing goes on, R holds from before to after
pub record Keeps {A : Type 0} (R : Now → Now → Type 0) (m : Doing A) : Type 0 where
  pub at : (n : Now) (a : A) (n' : Now) → m n ≡ went a n' → R n n'

-- what is now, with these units instead
abbrev with_units : Now → ℕ → Now
with_units n u = record { image = n.image; units = u; room = n.room; trace = n.trace }

-- what R needs: nothing done, two doings in a row, and the three doings that touch what is now
pub record Lawful (R : Now → Now → Type 0) : Type 0 where
  pub same : (n : Now) → R n n
  pub both : (n n₁ n' : Now) → R n n₁ → R n₁ n' → R n n'
  pub paid : (n : Now) (u : ℕ) → n.units ≡ suc u → R n (with_units n u)
  pub noted : (n : Now) (r i : ℕ) → n.room ≡ suc r
      → R n (record { image = n.image; units = n.units; room = r; trace = n.trace ++ (i ∷ []) })
  pub changed : (n : Now) (im : Image) → R n (record { image = im; units = n.units; room = n.room; trace = n.trace })

-- what an outcome that went tells

never-went : {A : Type 0} (r : Refusal) (a : A) (n : Now) → refused r ≡ went a n → ⊥
never-went r a n e = let z : ◌≡◌ {A = ℕ} 0 1 = cc in omega arith

there : {A : Type 0} (P : Now → Type 0) {a a' : A} {n n' : Now} → went a n ≡ went a' n' → P n → P n'
there P {n = n} {n' = n'} e p =
    let q : n ≡ n' = cc in
    subst P q p

-- what follows went, so the first did
pub both-went : {A B P : Type 0} (o : Outcome A) (f : A → Doing B) (b : B) (n' : Now) → after o f ≡ went b n'
    → ((a : A) (n : Now) → o ≡ went a n → f a n ≡ went b n' → P) → P
both-went (refused r) f b n' e k = absurd (never-went r b n' e)
both-went (went a n) f b n' e k = k a n refl e

-- a pay keeps all that one unit fewer keeps
module _ (R : Now → Now → Type 0) (paid : (n : Now) (u : ℕ) → n.units ≡ suc u → R n (with_units n u)) where
  paid-from : (u : ℕ) (n : Now) → n.units ≡ u → (a : Unit {0}) (n' : Now) → pay_from u n ≡ went a n' → R n n'
  paid-from zero n q a n' e = absurd (never-went _ a n' e)
  paid-from (suc u) n q a n' e = there (R n) e (paid n u q)

  pub paid-keeps : Keeps R pay
  unfolding pay
  paid-keeps = record { at = λ n a n' e. paid-from n.units n refl a n' e }

pub refuse-keeps : {A : Type 0} (R : Now → Now → Type 0) (k : ℕ) → Keeps R (refuse {A = A} k)
unfolding refuse
refuse-keeps R k = record { at = λ n a n' e. absurd (never-went _ a n' e) }

module _ {R : Now → Now → Type 0} (l : Lawful R) where
  noted_in : (r i : ℕ) (n : Now) → n.room ≡ r → (a : Unit {0}) (n' : Now) → note_in r i n ≡ went a n' → R n n'
  noted_in zero i n q a n' e = absurd (never-went _ a n' e)
  noted_in (suc r) i n q a n' e = there (R n) e (l.noted n r i q)

  pub keeps-closed : Closed (λ A m. Keeps R m)
  unfolding give look change note ◌>>=◌
  keeps-closed =
      record {
        gives = λ a. record { at = λ n a' n' e. there (R n) e (l.same n) };
        refuses = λ k p q. refuse-keeps R k;
        looks = record { at = λ n a n' e. there (R n) e (l.same n) };
        changes = λ f. record { at = λ n a n' e. there (R n) e (l.changed n _) };
        pays = paid-keeps R l.paid;
        notes = λ act k. record { at = λ n a n' e. noted_in n.room (item_of act k) n refl a n' e };
        binds = λ {m = m} {f = f} km kf. record {
          at = λ n b n' e. both-went (m n) f b n' e
              (λ a n₁ e₁ e₂. l.both n n₁ n' (km.at n a n₁ e₁) ((kf a).at n₁ b n' e₂));
        };
      }
