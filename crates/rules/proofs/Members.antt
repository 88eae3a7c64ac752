-- What is in a list: by the tests over it, among those that pass one, and among the numbers of a range. Assumes nothing.
use mathlib.Core.Path.{◌≡◌, refl}
use mathlib.Core.Logic.{◌⊎◌, inl, inr}
use mathlib.Core.Bool.{Bool, true, false, false≢true}
use mathlib.Core.List.Memᴰ
use mathlib.Core.List.{List, [], ◌∷◌, Memᴰ}
use Prim.Native.Nat.{ℕ, zero, suc, ◌+◌, ◌-◌, ◌≤◌, ◌<◌}
use native.Mathlib.Decide.{ℕ_discrete}
use native.Mathlib.Omega.{arith}
use lib.Dec.{eqb}
use lib.ListN.{length}
use borrow.Author.Tests.{eq-eqb, eqb-true}
use Rattle.rules.specs.Lists.{when◌then◌else◌, up_from, down_from, below, range, every, any, keep, first, is_in}
use Rattle.rules.proofs.Laws.{and_left, and_right, and_both, or_cases, or_left, or_right, two, clash, not_yes}

abbrev pub Mem : ℕ → List ℕ → Type 0
Mem x xs = Memᴰ x xs

module _ {A : Type 0} (f : A → Bool) where
  every-mem : (xs : List A) → every f xs ≡ true → {x : A} → Memᴰ x xs → f x ≡ true
  unfolding every
  every-mem [] e m = absurd (Memᴰ.not-nil m)
  every-mem (y ∷ ys) e m =
      elim (Memᴰ.cases_cons m)
      [ inl q ↦ rw q (and_left (f y) _ e) | inr n ↦ every-mem ys (and_right (f y) _ e) n ]

  pub mem-every : (xs : List A) → ((x : A) → Memᴰ x xs → f x ≡ true) → every f xs ≡ true
  unfolding every
  mem-every [] h = refl
  mem-every (y ∷ ys) h = and_both (f y) _ (h y (Memᴰ.head refl)) (mem-every ys (λ x m. h x (Memᴰ.tail m)))

  any-mem : (xs : List A) → any f xs ≡ true → (x : A) × Memᴰ x xs × (f x ≡ true)
  unfolding any
  any-mem [] e = absurd (false≢true e)
  any-mem (y ∷ ys) e =
      elim (or_cases (f y) _ e) [
        | inl q ↦ (y, Memᴰ.head refl, q)
        | inr q ↦ let (x, m, p) = any-mem ys q in (x, Memᴰ.tail m, p)
      ]

  pub mem-any : (xs : List A) {x : A} → Memᴰ x xs → f x ≡ true → any f xs ≡ true
  unfolding any
  mem-any [] m e = absurd (Memᴰ.not-nil m)
  mem-any (y ∷ ys) m e =
      elim (Memᴰ.cases_cons m)
      [ inl q ↦ or_left (f y) _ (rw q at e) | inr n ↦ or_right (f y) _ (mem-any ys n e) ]

  pub keep-mem : (xs : List A) {x : A} → Memᴰ x (keep f xs) → Memᴰ x xs × (f x ≡ true)
  unfolding keep when◌then◌else◌
  keep-mem [] m = absurd (Memᴰ.not-nil m)
  keep-mem (y ∷ ys) m =
      elim (two (f y)) [
        | inl e ↦
            elim (Memᴰ.cases_cons (rw e at m)) [
              | inl q ↦ (Memᴰ.head q, rw q e)
              | inr n ↦ let (i, p) = keep-mem ys n in (Memᴰ.tail i, p)
            ]
        | inr e ↦ let (i, p) = keep-mem ys (rw e at m) in (Memᴰ.tail i, p)
      ]

  pub mem-keep : (xs : List A) {x : A} → Memᴰ x xs → f x ≡ true → Memᴰ x (keep f xs)
  unfolding keep when◌then◌else◌
  mem-keep [] m e = absurd (Memᴰ.not-nil m)
  mem-keep (y ∷ ys) m e =
      elim (Memᴰ.cases_cons m) [
        | inl q ↦ rw (← q, e) (Memᴰ.head refl)
        | inr n ↦
            let k = mem-keep ys n e in
            elim (two (f y)) [ inl t ↦ rw t (Memᴰ.tail k) | inr t ↦ rw t k ]
      ]

  pub keep-none : (xs : List A) → ((x : A) → Memᴰ x xs → f x ≡ false) → keep f xs ≡ []
  unfolding keep when◌then◌else◌
  keep-none [] h = refl
  keep-none (y ∷ ys) h = rw (h y (Memᴰ.head refl)) (keep-none ys (λ x m. h x (Memᴰ.tail m)))

  pub keep_all : (xs : List A) → ((x : A) → Memᴰ x xs → f x ≡ true) → keep f xs ≡ xs
  unfolding keep when◌then◌else◌
  keep_all [] h = refl
  keep_all (y ∷ ys) h = rw (h y (Memᴰ.head refl), keep_all ys (λ x m. h x (Memᴰ.tail m)))

  pub keep-length : (xs : List A) → length (keep f xs) ≤ length xs
  unfolding keep when◌then◌else◌
  keep-length [] = omega arith
  keep-length (y ∷ ys) =
      let h = keep-length ys in
      elim (two (f y)) [ inl e ↦ rw e (omega arith) | inr e ↦ rw e (omega arith) ]

  pub all-kept : (xs : List A) → length (keep f xs) ≡ length xs → {x : A} → Memᴰ x xs → f x ≡ true
  unfolding keep when◌then◌else◌
  all-kept [] e m = absurd (Memᴰ.not-nil m)
  all-kept (y ∷ ys) e m =
      elim (two (f y)) [
        | inl q ↦
            elim (Memᴰ.cases_cons m)
            [ inl t ↦ rw t q | inr n ↦ all-kept ys (omega (arith, rw q at e)) n ]
        | inr q ↦ absurd (omega (arith, rw q at e, keep-length ys))
      ]

  pub none_kept : (xs : List A) → length (keep f xs) ≡ 0 → {x : A} → Memᴰ x xs → f x ≡ false
  none_kept xs e {x} m = not_yes (f x) (λ q. empty (keep f xs) e (mem-keep xs m q))
    where
      empty : (l : List A) → length l ≡ 0 → Memᴰ x l → ⊥
      empty [] e m = Memᴰ.not-nil m
      empty (y ∷ ys) e m = omega arith

pub is_in-mem : (n : ℕ) (xs : List ℕ) → is_in n xs ≡ true → Mem n xs
unfolding is_in
is_in-mem n xs e = let (x, m, q) = any-mem (eqb n) xs e in Memᴰ.cast (eqb-true n x q) m

pub mem-is_in : (n : ℕ) (xs : List ℕ) → Mem n xs → is_in n xs ≡ true
unfolding is_in
mem-is_in n xs m = mem-any (eqb n) xs m (eq-eqb n n refl)

-- the first that passes is of the list, or there is none and it is 0
pub first-mem : (f : ℕ → Bool) (xs : List ℕ) → (first f xs ≡ 0) ⊎ (Mem (first f xs) xs × (f (first f xs) ≡ true))
unfolding first when◌then◌else◌
first-mem f [] = inl refl
first-mem f (y ∷ ys) =
    elim (two (f y)) [
      | inl e ↦ rw e (inr (Memᴰ.head refl, e))
      | inr e ↦ rw e (elim (first-mem f ys) [ inl q ↦ inl q | inr p ↦ inr (Memᴰ.tail p.0, p.1) ])
    ]

-- of one that alone passes, it is the first; of none, 0
pub first-only : (f : ℕ → Bool) (xs : List ℕ) (q : ℕ) → Mem q xs → f q ≡ true → ((x : ℕ) → Mem x xs → f x ≡ true → x ≡ q)
    → first f xs ≡ q
unfolding first when◌then◌else◌
first-only f [] q m y u = absurd (Memᴰ.not-nil m)
first-only f (x ∷ xs) q m y u =
    elim (two (f x)) [
      | inl e ↦ rw e (u x (Memᴰ.head refl) e)
      | inr e ↦ rw e (first-only f xs q (elim (Memᴰ.cases_cons m) [ inl z ↦ clash y (rw z e) | inr i ↦ i ]) y
          (λ z i. u z (Memᴰ.tail i)))
    ]

pub first-none : (f : ℕ → Bool) (xs : List ℕ) → ((x : ℕ) → Mem x xs → f x ≡ false) → first f xs ≡ 0
unfolding first when◌then◌else◌
first-none f [] u = refl
first-none f (x ∷ xs) u = rw (u x (Memᴰ.head refl)) (first-none f xs (λ y i. u y (Memᴰ.tail i)))

-- nothing, or a list
pub else-mem : {x : ℕ} {xs : List ℕ} (b : Bool) → Mem x (when b then [] else xs) → (b ≡ false) × Mem x xs
unfolding when◌then◌else◌
else-mem true m = absurd (Memᴰ.not-nil m)
else-mem false m = (refl, m)

pub mem-else : {x : ℕ} {xs : List ℕ} (b : Bool) → b ≡ false → Mem x xs → Mem x (when b then [] else xs)
unfolding when◌then◌else◌
mem-else b e m = rw e m

pub up_from-mem : (a n : ℕ) {x : ℕ} → Mem x (up_from a n) → (a ≤ x) × (x < a + n)
unfolding up_from
up_from-mem a zero m = absurd (Memᴰ.not-nil m)
up_from-mem a (suc n) m =
    elim (Memᴰ.cases_cons m) [ inl q ↦ omega arith | inr k ↦ omega (arith, up_from-mem (a + 1) n k) ]

mem-up_from : (a n x : ℕ) → a ≤ x → x < a + n → Mem x (up_from a n)
unfolding up_from
mem-up_from a zero x h g = absurd (omega arith)
mem-up_from a (suc n) x h g =
    elim (ℕ_discrete x a) [
      | yes e ↦ Memᴰ.head e
      | no e ↦ Memᴰ.tail (mem-up_from (a + 1) n x (omega arith) (omega arith))
    ]

pub below-mem : (n : ℕ) {x : ℕ} → Mem x (below n) → x < n
unfolding below
below-mem n m = omega (arith, up_from-mem 0 n m)

pub mem_below : (n x : ℕ) → x < n → Mem x (below n)
unfolding below
mem_below n x h = mem-up_from 0 n x (omega arith) (omega arith)

pub range-mem : (a e : ℕ) {x : ℕ} → Mem x (range a e) → (a ≤ x) × (x < e)
unfolding range
range-mem a e m = omega (arith, up_from-mem a (e - a) m)

pub mem-range : (a e x : ℕ) → a ≤ x → x < e → Mem x (range a e)
unfolding range
mem-range a e x h g = mem-up_from a (e - a) x h (omega arith)

pub down_from-mem : (n : ℕ) {x : ℕ} → Mem x (down_from n) → (0 < x) × (x ≤ n)
unfolding down_from
down_from-mem zero m = absurd (Memᴰ.not-nil m)
down_from-mem (suc n) m =
    elim (Memᴰ.cases_cons m) [ inl q ↦ omega arith | inr k ↦ omega (arith, down_from-mem n k) ]

pub mem-down_from : (n x : ℕ) → 0 < x → x ≤ n → Mem x (down_from n)
unfolding down_from
mem-down_from zero x h g = absurd (omega arith)
mem-down_from (suc n) x h g =
    elim (ℕ_discrete x (suc n))
    [ yes e ↦ Memᴰ.head e | no e ↦ Memᴰ.tail (mem-down_from n x h (omega arith)) ]

pub every-below : (f : ℕ → Bool) (n : ℕ) → every f (below n) ≡ true → (x : ℕ) → x < n → f x ≡ true
every-below f n e x h = every-mem f (below n) e (mem_below n x h)

pub below-every : (f : ℕ → Bool) (n : ℕ) → ((x : ℕ) → x < n → f x ≡ true) → every f (below n) ≡ true
below-every f n h = mem-every f (below n) (λ x m. h x (below-mem n m))

pub every-range : (f : ℕ → Bool) (a e : ℕ) → every f (range a e) ≡ true → (x : ℕ) → a ≤ x → x < e → f x ≡ true
every-range f a e q x h g = every-mem f (range a e) q (mem-range a e x h g)

pub range-every : (f : ℕ → Bool) (a e : ℕ) → ((x : ℕ) → a ≤ x → x < e → f x ≡ true) → every f (range a e) ≡ true
range-every f a e h = mem-every f (range a e) (λ x m. let (p, q) = range-mem a e m in h x p q)
