-- Lists in which no number comes twice, and the one law of sums over them: where each of a list is in another, its sum is no
-- more than the other's. So for lengths, and for whatever is counted. Assumes nothing.
use mathlib.Core.Path.{◌≡◌, refl, sym, ap}
use mathlib.Core.Logic.{inl, inr}
use mathlib.Core.Bool.{Bool, not}
use mathlib.Core.List.Memᴰ
use mathlib.Core.List.{List, [], ◌∷◌, ◌++◌}
use Prim.Native.Nat.{ℕ, zero, suc, ◌+◌, ◌≤◌, ◌<◌}
use native.Mathlib.Omega.{arith}
use lib.Dec.{eqb}
use lib.ListN.{length}
use borrow.Author.Tests.{eq-eqb, ne_eqb, eqb-true}
use Rattle.rules.specs.Lists.{when◌then◌else◌, up_from, down_from, below, range, keep, sum_over}
use Rattle.rules.proofs.Laws.{two, clash}
use Rattle.rules.proofs.Members.{Mem, keep-mem, mem-keep, up_from-mem, down_from-mem, mem_below}

abbrev pub Distinct : List ℕ → Type 0
Distinct [] = Unit {0}
Distinct (x ∷ xs) = (Mem x xs → ⊥) × Distinct xs

up_from-distinct : (a n : ℕ) → Distinct (up_from a n)
unfolding up_from
up_from-distinct a zero = tt
up_from-distinct a (suc n) = (λ m. omega (arith, up_from-mem (a + 1) n m), up_from-distinct (a + 1) n)

pub range-distinct : (a e : ℕ) → Distinct (range a e)
unfolding range
range-distinct a e = up_from-distinct a _

pub down_from-distinct : (n : ℕ) → Distinct (down_from n)
unfolding down_from
down_from-distinct zero = tt
down_from-distinct (suc n) = (λ m. omega (arith, down_from-mem n m), down_from-distinct n)

pub keep-distinct : (f : ℕ → Bool) (xs : List ℕ) → Distinct xs → Distinct (keep f xs)
unfolding keep when◌then◌else◌
keep-distinct f [] d = tt
keep-distinct f (x ∷ xs) d =
    let k = keep-distinct f xs d.1 in
    elim (two (f x)) [ inl e ↦ rw e (λ m. d.0 (keep-mem f xs m).0, k) | inr e ↦ rw e k ]

pub distinct_append : (xs ys : List ℕ) → Distinct xs → Distinct ys → ((x : ℕ) → Mem x xs → Mem x ys → ⊥)
    → Distinct (xs ++ ys)
distinct_append [] ys d e apart = e
distinct_append (x ∷ xs) ys d e apart = (
  λ m. elim (Memᴰ.append_cases xs m) [ inl n ↦ d.0 n | inr n ↦ apart x (Memᴰ.head refl) n ],
  distinct_append xs ys d.1 e (λ y m. apart y (Memᴰ.tail m)),
)

-- one more at the end
pub distinct_more : (xs : List ℕ) (t : ℕ) → Distinct xs → (Mem t xs → ⊥) → Distinct (xs ++ (t ∷ []))
distinct_more xs t d n =
    distinct_append xs (t ∷ []) d (Memᴰ.not-nil, tt) (λ x m o. n (Memᴰ.cast (sym (Memᴰ.eq_of_singleton o)) m))

-- all but x
abbrev other : ℕ → ℕ → Bool
other x y = not (eqb y x)

module _ (f : ℕ → ℕ) where
  keep-light : (g : ℕ → Bool) (ys : List ℕ) → sum_over f (keep g ys) ≤ sum_over f ys
  unfolding keep when◌then◌else◌ sum_over
  keep-light g [] = omega arith
  keep-light g (y ∷ ys) =
      let l = keep-light g ys in
      elim (two (g y)) [ inl e ↦ rw e (omega arith) | inr e ↦ rw e (omega arith) ]

  without : (x : ℕ) (ys : List ℕ) → Mem x ys → f x + sum_over f (keep (other x) ys) ≤ sum_over f ys
  unfolding keep when◌then◌else◌ sum_over
  without x [] m = absurd (Memᴰ.not-nil m)
  without x (y ∷ ys) m =
      elim (two (eqb y x)) [
        | inl e ↦ rw e (omega (arith, ap f (eqb-true y x e), keep-light (other x) ys))
        | inr e ↦
            elim (Memᴰ.cases_cons m)
            [ inl q ↦ clash (eq-eqb y x (sym q)) e | inr n ↦ rw e (omega (arith, without x ys n)) ]
      ]

  pub light : (xs ys : List ℕ) → Distinct xs → ((x : ℕ) → Mem x xs → Mem x ys) → sum_over f xs ≤ sum_over f ys
  unfolding sum_over
  light [] ys d h = omega arith
  light (x ∷ xs) ys d h =
      omega (arith, without x ys (h x (Memᴰ.head refl)), light xs (keep (other x) ys) d.1 rest)
    where
      rest : (y : ℕ) → Mem y xs → Mem y (keep (other x) ys)
      rest y m = mem-keep (other x) ys (h y (Memᴰ.tail m)) (rw (ne_eqb y x (λ q. d.0 (Memᴰ.cast (sym q) m))))

  -- one of a list
  pub mem-light : (x : ℕ) (ys : List ℕ) → Mem x ys → f x ≤ sum_over f ys
  mem-light x ys m = omega (arith, without x ys m)

-- as many as there are, counted by ones
ones : (xs : List ℕ) → sum_over (λ _. 1) xs ≡ length xs
unfolding sum_over
ones [] = refl
ones (x ∷ xs) = omega (arith, ones xs)

pub up-length : (a n : ℕ) → length (up_from a n) ≡ n
unfolding up_from
up-length a zero = refl
up-length a (suc n) = ap suc (up-length (a + 1) n)

-- numbers below n that are distinct are at most n
pub few : (n : ℕ) (xs : List ℕ) → Distinct xs → ((x : ℕ) → Mem x xs → x < n) → length xs ≤ n
unfolding below
few n xs d h =
    let l = light (λ _. 1) xs (below n) d (λ x m. mem_below n x (h x m)) in
    omega (arith, ones xs, ones (below n), up-length 0 n)
