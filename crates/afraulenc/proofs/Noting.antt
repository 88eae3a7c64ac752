-- Every item that a step notes is above 0, a relation that all the rules keep: so zeros behind the items are none.
-- Assumes nothing.
use mathlib.Core.Path.{◌≡◌, refl, sym, subst, ◌∙◌}
use mathlib.Core.List.{List, [], ◌∷◌, ◌++◌, append-nil}
use Prim.Native.Nat.{ℕ, zero, suc, ◌<◌}
use native.Mathlib.Omega.{arith}
use lib.ListN.{replicate}
use Rattle.rules.specs.Chart.{Chart}
use Rattle.rules.specs.Doing.{Refusal, Now, refused, went, give, look, change, ◌>>=◌, item_of, note_in, note}
use Rattle.rules.specs.Doing.{Act, state_entered, state_left, during_point, segment_passed, transition_performed, output_raised}
use Rattle.rules.specs.Run.{step}
use Rattle.rules.proofs.Closing.{Closed, step-has}
use Rattle.rules.proofs.Keeping.{Keeps, both-went, paid-keeps, refuse-keeps}

abbrev pub Items : List ℕ → Type 0
Items [] = Unit {0}
Items (x ∷ xs) = (0 < x) × Items xs

items-more : (xs : List ℕ) (x : ℕ) → Items xs → 0 < x → Items (xs ++ (x ∷ []))
items-more [] x i h = (h, tt)
items-more (y ∷ xs) x i h = (i.0, items-more xs x i.1 h)

-- zeros are no items
no-zeros : (xs : List ℕ) (k : ℕ) → Items (xs ++ replicate k 0) → k ≡ 0
no-zeros [] zero i = refl
no-zeros [] (suc k) i = absurd (omega (arith, i.0))
no-zeros (x ∷ xs) k i = no-zeros xs k i.1

pub items-alone : {trace : List ℕ} (xs : List ℕ) (k : ℕ) → Items trace → trace ≡ xs ++ replicate k 0 → xs ≡ trace
items-alone xs k i e =
    let none : k ≡ 0 = no-zeros xs k (rw e at i) in
    sym (e ∙ rw none (append-nil xs))

is_item : (act : Act) (n : ℕ) → 0 < item_of act n
is_item state_entered n = omega arith
is_item state_left n = omega arith
is_item during_point n = omega arith
is_item segment_passed n = omega arith
is_item transition_performed n = omega arith
is_item output_raised n = omega arith

abbrev Noted : Now → Now → Type 0
Noted n n' = Items n.trace → Items n'.trace

there : {A : Type 0} {a a' : A} (n : Now) {m m' : Now} → went a m ≡ went a' m' → Noted n m → Noted n m'
there n {m = m} {m' = m'} e p =
    let q : m ≡ m' = cc in
    subst (Noted n) q p

never-went : {A : Type 0} (r : Refusal) (a : A) (n : Now) → refused r ≡ went a n → ⊥
never-went r a n e = let z : ◌≡◌ {A = ℕ} 0 1 = cc in omega arith

noted-in : (r : ℕ) (act : Act) (k : ℕ) (n : Now) (a : Unit {0}) (n' : Now) → note_in r (item_of act k) n ≡ went a n' → Noted n n'
noted-in zero act k n a n' e = absurd (never-went _ a n' e)
noted-in (suc r) act k n a n' e = there n e (λ i. items-more n.trace (item_of act k) i (is_item act k))

noting : Closed (λ A m. Keeps Noted m)
unfolding give look change note ◌>>=◌
noting =
    record {
      gives = λ a. record { at = λ n a' n' e. there n e (λ i. i) };
      refuses = λ k p q. refuse-keeps Noted k;
      looks = record { at = λ n a n' e. there n e (λ i. i) };
      changes = λ f. record { at = λ n a n' e. there n e (λ i. i) };
      pays = paid-keeps Noted (λ n u e i. i);
      notes = λ act k. record { at = λ n a n' e. noted-in n.room act k n a n' e };
      binds = λ {m = m} {f = f} km kf. record {
        at = λ n b n' e. both-went (m n) f b n' e (λ a n₁ e₁ e₂ i. (kf a).at n₁ b n' e₂ (km.at n a n₁ e₁ i));
      };
    }

pub step-notes : (c : Chart) (e : ℕ) (n : Now) (a : Unit {0}) (n' : Now) → step c e n ≡ went a n' → Items n.trace → Items n'.trace
step-notes c e = (step-has noting c e).at
