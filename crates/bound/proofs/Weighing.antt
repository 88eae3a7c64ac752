-- The sums of W over each junction's segments: a segment that starts at a junction adds to that junction's sum alone, and a
-- round goes a segment further. Assumes nothing.
use mathlib.Core.Path.{◌≡◌, refl, sym, ap, ◌∙◌}
use mathlib.Core.Bool.{Bool, true, false}
use mathlib.Core.List.{List}
use Prim.Native.Nat.{ℕ, suc, ◌+◌, ◌≤◌, ◌<◌}
use native.Mathlib.Numerals.{add-one}
use lib.Dec.{eqb}
use lib.ListN.{get_or, set, replicate}
use borrow.Author.Tests.{eq-eqb}
use Rattle.rules.specs.Bytes.{byte}
use Rattle.rules.specs.Lists.{below, keep, sum_over}
use Rattle.rules.specs.Chart.{Chart, Segment, junctions, segments, source_kind, source, destination, ends_on_state, condition, condition_action, starts_at, from_junction}
use Rattle.rules.specs.Bound.{WWithin}
use Rattle.bound.specs.Sums.{capped, table, weight_on, round_of, weights_within}
use Rattle.bound.proofs.Growing.{kept-none, kept_more, kept_same, ended}
use Rattle.bound.proofs.Capping.{plus-capped, sum-capped, sum_zeros, either-capped}
use Rattle.bound.proofs.Tabling.{at_table, same-table, empty-table, set-table}

-- the sums of w over those numbers below t that start at each junction
abbrev tallied : (ℕ → ℕ) → (ℕ → ℕ → Bool) → ℕ → List ℕ
tallied w p t = table (λ j. capped (sum_over w (keep (p j) (below t))))

module _ (w : ℕ → ℕ) (p : ℕ → ℕ → Bool) where
  tally-none : replicate 256 0 ≡ tallied w p 0
  tally-none = empty-table 0 (λ j. capped (sum_over w (keep (p j) (below 0)))) (λ j. rw (kept-none w (p j)))

  module _ (t : ℕ) where
    -- t starts at k alone
    tally-more : (k : ℕ) → k < 256 → ((j : ℕ) → p j t ≡ eqb k j) → {part v : ℕ} → part ≡ capped (w t)
        → v ≡ capped (get_or (tallied w p t) k 0 + part) → set (tallied w p t) k v ≡ tallied w p (t + 1)
    tally-more k h at e v =
        set-table 0 _ _ k h
        (plus-capped (sum_over w (keep (p k) (below t))) (w t) (at_table 0 _ k h) e v
        ∙ ap capped (sym (kept_more w (p k) t (at k ∙ eq-eqb k k refl))))
        (λ j q. ap capped (sym (kept_same w (p j) t (at j ∙ q))))

    -- t starts at none
    tally-same : ((j : ℕ) → p j t ≡ false) → tallied w p t ≡ tallied w p (t + 1)
    tally-same none = same-table 0 _ _ (λ j h. ap capped (sym (kept_same w (p j) t (none j))))

module _ (c : Chart) (bytes : (i : ℕ) → byte c i < 256) where
  pub on-within : (n : ℕ) (t : Segment) → capped (weight_on c (weights_within c n) t) ≡ capped (WWithin c (suc n) t)
  unfolding weight_on weights_within WWithin
  on-within n t =
      rw (at_table 0 (λ j. capped (sum_over (λ u. WWithin c n u) (from_junction c j))) (destination c t) (bytes _))
      (either-capped (ends_on_state c t) (1 + (condition c t).count + (condition_action c t).count) (sum_over (λ u. WWithin c n u) (from_junction c (destination c t))))

  round-within : (n : ℕ) → round_of c (weights_within c n) ≡ weights_within c (n + 1)
  unfolding round_of weights_within
  round-within n = rw (add-one n) (same-table 0 _ _ (λ j h. sum-capped _ _ (on-within n) (from_junction c j)))

no-rounds : (c : Chart) → replicate 256 0 ≡ weights_within c 0
unfolding weights_within WWithin
no-rounds c = empty-table 0 _ (λ j. ap capped (sum_zeros (from_junction c j)))

-- a loop over the segments, before segment n: the table has the sums of those passed
pub record Round (c : Chart) (before : List ℕ) (n : ℕ) (sums : List ℕ) : Type 0 where
  pub tally : sums ≡ tallied (weight_on c before) (starts_at c 2) n

module _ {c : Chart} {before : List ℕ} where
  pub round-none : Round c before 0 (replicate 256 0)
  round-none = record { tally = tally-none (weight_on c before) (starts_at c 2) }

  module _ {n : ℕ} {sums : List ℕ} (p : Round c before n sums) where
    pub round-all : {e : ℕ} → n ≤ e → e ≤ n → e ≡ segments c → sums ≡ round_of c before
    unfolding round_of from_junction
    round-all u l all = let q : n ≡ segments c = ended u l ∙ all in rw (← q) p.tally

    module _ {next : List ℕ} where
      pub round-more : {k : ℕ} → k < 256 → (eqb (source_kind c n) 2 ≡ true) × (k ≡ source c n) → {part v : ℕ}
          → part ≡ capped (weight_on c before n) → v ≡ capped (get_or sums k 0 + part) → next ≡ set sums k v → Round c before (n + 1) next
      unfolding starts_at
      round-more {k} small on {part} {v} w add q = record {
        tally =
            q ∙ ap (λ (f : List ℕ). set f k v) p.tally
            ∙ tally-more (weight_on c before) (starts_at c 2) n k small (λ j. rw (on.0, ← on.1)) w (rw p.tally at add);
      }

      pub round_same : eqb (source_kind c n) 2 ≡ false → next ≡ sums → Round c before (n + 1) next
      unfolding starts_at
      round_same off q = record {
        tally = q ∙ p.tally ∙ tally-same (weight_on c before) (starts_at c 2) n (λ j. rw off);
      }

-- a loop of rounds, before round n: the sums go n segments far
pub record Rounds (c : Chart) (n : ℕ) (sums : List ℕ) : Type 0 where
  pub within : sums ≡ weights_within c n

module _ {c : Chart} where
  pub rounds-none : Rounds c 0 (replicate 256 0)
  rounds-none = record { within = no-rounds c }

  module _ {n : ℕ} {sums : List ℕ} (p : Rounds c n sums) where
    pub rounds-more : ((i : ℕ) → byte c i < 256) → {next : List ℕ} → next ≡ round_of c sums → Rounds c (n + 1) next
    rounds-more bytes r = record { within = r ∙ ap (round_of c) p.within ∙ round-within c bytes n }

    pub rounds-all : {e : ℕ} → n ≤ e → e ≤ n → e ≡ junctions c → sums ≡ weights_within c (junctions c)
    rounds-all u l all = p.within ∙ ap (weights_within c) (ended u l ∙ all)
