-- How many of the numbers below n pass a test: no more than n, and one more where one more passes. Assumes nothing.
use mathlib.Core.Logic.{inl, inr}
use mathlib.Core.Path.{◌≡◌, refl, sym, ◌∙◌}
use mathlib.Core.Bool.{Bool, true, false, ◌||◌, or-false}
use mathlib.Core.Bool as B
use Prim.Native.Nat.{ℕ, zero, suc, ◌+◌, ◌≤◌, ◌<◌}
use native.Mathlib.Numerals.{add-one}
use native.Mathlib.Omega.{arith}
use lib.Dec.{eqb}
use borrow.Author.Tests.{eqb-true, eqb-false, ne_eqb}
use Rattle.rules.specs.Lists.{below, keep, sum_over}
use Rattle.rules.proofs.Laws.{two}
use Rattle.bound.proofs.Growing.{kept-none, kept_more, kept_same}

abbrev pub found : (ℕ → Bool) → ℕ → ℕ
found f n = sum_over (λ i. 1) (keep f (below n))

none : (f : ℕ → Bool) → found f 0 ≡ 0
none f = kept-none (λ i. 1) f

next-on : (f : ℕ → Bool) (n : ℕ) → f n ≡ true → found f (n + 1) ≡ found f n + 1
next-on f n e = kept_more (λ i. 1) f n e

next-off : (f : ℕ → Bool) (n : ℕ) → f n ≡ false → found f (n + 1) ≡ found f n
next-off f n e = kept_same (λ i. 1) f n e

most-next : (f : ℕ → Bool) (n : ℕ) → found f n ≤ n → found f (n + 1) ≤ n + 1
most-next f n h = by (f n) refl
  where
    by : (b : Bool) → f n ≡ b → found f (n + 1) ≤ n + 1
    by true p = omega (arith, next-on f n p)
    by false p = omega (arith, next-off f n p)

pub found-most : (f : ℕ → Bool) (n : ℕ) → found f n ≤ n
found-most f zero = omega (arith, none f)
found-most f (suc n) = rw (← add-one n) (most-next f n (found-most f n))

module _ (f g : ℕ → Bool) where
  same-next : (n : ℕ) → f n ≡ g n → found f n ≡ found g n → found f (n + 1) ≡ found g (n + 1)
  same-next n q e = by (f n) refl
    where
      by : (b : Bool) → f n ≡ b → found f (n + 1) ≡ found g (n + 1)
      by true p = omega (arith, next-on f n p, next-on g n (sym q ∙ p))
      by false p = omega (arith, next-off f n p, next-off g n (sym q ∙ p))

  found-same : (n : ℕ) → ((i : ℕ) → i < n → f i ≡ g i) → found f n ≡ found g n
  found-same zero e = none f ∙ sym (none g)
  found-same (suc n) e =
      rw (← add-one n) (same-next n (e n (omega arith)) (found-same n (λ i h. e i (omega arith))))

  -- k is one more
  module _ (k : ℕ) (off : f k ≡ false) (more : (i : ℕ) → g i ≡ f i || eqb k i) where
    other : (i : ℕ) → eqb k i ≡ false → f i ≡ g i
    other i q = sym (more i ∙ rw q (or-false (f i)))

    here : (n : ℕ) → eqb k n ≡ true → found g (n + 1) ≡ found f (n + 1) + 1
    here n q =
        let same : k ≡ n = eqb-true k n q in
        let was : f n ≡ false = rw same at off in
        let is : g n ≡ true = more n ∙ rw q (B.or-true (f n)) in
        let before : found f n ≡ found g n = found-same n (λ i h. other i (ne_eqb k i (λ e. omega arith))) in
        omega (arith, next-off f n was, next-on g n is, before)

    past : (n : ℕ) → eqb k n ≡ false → found g n ≡ found f n + 1 → found g (n + 1) ≡ found f (n + 1) + 1
    past n q e = by (f n) refl
      where
        by : (b : Bool) → f n ≡ b → found g (n + 1) ≡ found f (n + 1) + 1
        by true p = omega (arith, next-on f n p, next-on g n (sym (other n q) ∙ p))
        by false p = omega (arith, next-off f n p, next-off g n (sym (other n q) ∙ p))

    pub found-more : (n : ℕ) → k < n → found g n ≡ found f n + 1
    found-more zero h = absurd (omega arith)
    found-more (suc n) h =
        rw (← add-one n) (elim (two (eqb k n)) [
          | inl q ↦ here n q
          | inr q ↦
              let apart : (k ≡ n → ⊥) = eqb-false k n q in
              past n q (found-more n (omega (arith, apart)))
        ])
