-- More units never change a doing that was not refused for want of units, which is closed under the ways doings are made.
-- Assumes nothing.
use mathlib.Core.Path.{◌≡◌, refl}
use mathlib.Core.Logic.{◌⊎◌, inl, inr}
use Prim.Native.Nat.{ℕ, zero, suc, ◌+◌}
use native.Mathlib.Nat.{suc-add}
use Rattle.rules.specs.Chart.{Chart}
use Rattle.rules.specs.Doing.{because, Now, Outcome, refused, went, Doing, give, refuse, after, ◌>>=◌, look, change, pay_from, pay, item_of, note_in, note}
use Rattle.rules.specs.Run.{step}
use Rattle.rules.proofs.Closing.{Closed, step-has}

abbrev pub more : ℕ → Now → Now
more k n = record { image = n.image; units = n.units + k; room = n.room; trace = n.trace }

-- how an outcome with k units more compares
abbrev pub Same : {A : Type 0} → ℕ → Outcome A → Outcome A → Type 0
Same k (refused r) o = (r.number ≡ 16) ⊎ (o ≡ refused r)
Same k (went a n) o = o ≡ went a (more k n)

pub record Steady {A : Type 0} (m : Doing A) : Type 0 where
  pub at : (k : ℕ) (n : Now) → Same k (m n) (m (more k n))

paid : (k u : ℕ) (n : Now) → Same k (pay_from u n) (pay_from (u + k) (more k n))
unfolding because
paid k zero n = inl refl
paid k (suc u) n = rw (suc-add u k) refl

noted : (k r i : ℕ) (n : Now) → Same k (note_in r i n) (note_in r i (more k n))
noted k zero i n = inr refl
noted k (suc r) i n = refl

joined : {A B : Type 0} (f : A → Doing B) → ((a : A) → Steady (f a))
    → (k : ℕ) (o o' : Outcome A) → Same k o o' → Same k (after o f) (after o' f)
joined f sf k (refused r) o' (inl e) = inl e
joined f sf k (refused r) o' (inr p) = rw p (inr refl)
joined f sf k (went a n) o' p = rw p ((sf a).at k n)

steady : Closed (λ A m. Steady m)
unfolding give refuse look change pay note ◌>>=◌
steady =
    record {
      gives = λ a. record { at = λ k n. refl };
      refuses = λ r low high. record { at = λ k n. inr refl };
      looks = record { at = λ k n. refl };
      changes = λ f. record { at = λ k n. refl };
      pays = record { at = λ k n. paid k n.units n };
      notes = λ act i. record { at = λ k n. noted k n.room (item_of act i) n };
      binds = λ {m = m} {f = f} sm sf. record { at = λ k n. joined f sf k (m n) (m (more k n)) (sm.at k n) };
    }

pub steady-step : (c : Chart) (e : ℕ) → Steady (step c e)
steady-step c e = step-has steady c e
