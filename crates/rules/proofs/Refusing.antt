-- The refusals that a step itself can answer are 16 to 20: 16 by a pay, 20 by a note, 17 to 19 by the rules between; that a
-- doing is refused by these alone is closed under the ways doings are made. Assumes nothing.
use mathlib.Core.Path.{◌≡◌}
use Prim.Native.Nat.{ℕ, zero, suc, ◌≤◌}
use native.Mathlib.Omega.{arith}
use Rattle.rules.specs.Chart.{Chart}
use Rattle.rules.specs.Doing.{Refusal, because, Now, Outcome, refused, went, Doing, give, refuse, after, ◌>>=◌, look, change, pay_from, pay, item_of, note_in, note}
use Rattle.rules.specs.Run.{step}
use Rattle.rules.proofs.Closing.{Closed, step-has}

abbrev pub Executing : Refusal → Type 0
Executing r = (16 ≤ r.number) × (r.number ≤ 20)

-- an outcome that is refused is so by one of these
abbrev Refuses : {A : Type 0} → Outcome A → Type 0
Refuses (refused r) = Executing r
Refuses (went a n) = Unit {0}

paid : (u : ℕ) (n : Now) → Refuses (pay_from u n)
unfolding because
paid zero n = omega arith
paid (suc u) n = tt

noted : (r i : ℕ) (n : Now) → Refuses (note_in r i n)
unfolding because
noted zero i n = omega arith
noted (suc r) i n = tt

joined : {A B : Type 0} (f : A → Doing B) → ((a : A) (n : Now) → Refuses (f a n))
    → (o : Outcome A) → Refuses o → Refuses (after o f)
joined f hf (refused r) h = h
joined f hf (went a n) h = hf a n

refuses : Closed (λ A m. (n : Now) → Refuses (m n))
unfolding give refuse because look change pay note ◌>>=◌
refuses =
    record {
      gives = λ a n. tt;
      refuses = λ k low high n. omega arith;
      looks = λ n. tt;
      changes = λ f n. tt;
      pays = λ n. paid n.units n;
      notes = λ act k n. noted n.room (item_of act k) n;
      binds = λ {m = m} {f = f} hm hf n. joined f hf (m n) (hm n);
    }

pub step-refuses : (c : Chart) (e : ℕ) (n : Now) (r : Refusal) → step c e n ≡ refused r → Executing r
step-refuses c e n r w = rw w at (step-has refuses c e n)
