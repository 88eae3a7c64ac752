-- Loops over the numbers from a up to e. An invariant says that what was to do at the start is what is to do from here:
-- the law of a turn drops the number passed, the law of the end says what no numbers give. So for a test of each, and for
-- those that pass one; and which numbers are among those. Assumes nothing.
use mathlib.Core.Path.{◌≡◌, refl, sym, ap}
use mathlib.Core.Bool.{Bool, true, false, ◌&&◌, ◌||◌, and-false}
use mathlib.Core.List.{List, [], ◌∷◌}
use Prim.Native.Nat.{ℕ, zero, suc, ◌+◌, ◌-◌, ◌≤◌, ◌<◌}
use native.Mathlib.Nat.{sub-zero, sub-eq-zero_of_le}
use native.Mathlib.Omega.{arith}
use lib.Dec.{eqb, leb, ltb}
use borrow.Author.Tests.{eqb-true, eqb-false, leb-true, leb-false, le-leb, lt-leb, lt-ltb, le-ltb}
use Rattle.rules.specs.Lists.{when◌then◌else◌, up_from, range, below, every, any, keep, is_in}

pub range-end : (a e : ℕ) → e ≤ a → range a e ≡ []
unfolding range up_from
range-end a e h = rw (sub-eq-zero_of_le h)

pub range-step : (a e : ℕ) → a < e → range a e ≡ a ∷ range (a + 1) e
unfolding range up_from
range-step a e h = let q : e - a ≡ suc (e - (a + 1)) = omega arith in rw q

pub below-range : (n : ℕ) → below n ≡ range 0 n
unfolding below range
below-range n = ap (up_from 0) (sym (sub-zero n))

module _ (f : ℕ → Bool) (a e : ℕ) where
  -- a test of each
  pub every-end : e ≤ a → every f (range a e) ≡ true
  unfolding every
  every-end h = rw (range-end a e h)

  -- those that pass
  pub keep-end : e ≤ a → keep f (range a e) ≡ []
  unfolding keep
  keep-end h = rw (range-end a e h)

  pub keep-pass : a < e → f a ≡ true → keep f (range a e) ≡ a ∷ keep f (range (a + 1) e)
  unfolding keep when◌then◌else◌
  keep-pass h p = rw (range-step a e h, p)

  pub keep-skip : a < e → f a ≡ false → keep f (range a e) ≡ keep f (range (a + 1) e)
  unfolding keep when◌then◌else◌
  keep-skip h p = rw (range-step a e h, p)

-- which numbers are among them
none_in : (s a e : ℕ) → e ≤ a → (t : Bool) → leb a s ≡ t → leb a s && ltb s e ≡ false
none_in s a e h true p = let b = leb-true a s p in rw (p, le-ltb s e (omega arith))
none_in s a e h false p = rw p

past_first : (s a : ℕ) → (s ≡ a → ⊥) → (t : Bool) → leb a s ≡ t → leb (a + 1) s ≡ leb a s
past_first s a n true p = let b = leb-true a s p in rw (p, le-leb (a + 1) s (omega arith))
past_first s a n false p = let b = leb-false a s p in rw (p, lt-leb (a + 1) s (omega arith))

first-or-past : (s a e : ℕ) → a < e → (t : Bool) → eqb s a ≡ t → eqb s a || (leb (a + 1) s && ltb s e) ≡ leb a s && ltb s e
first-or-past s a e h true p = let q = eqb-true s a p in rw (p, le-leb a s (omega arith), lt-ltb s e (omega arith))
first-or-past s a e h false p = rw (p, past_first s a (eqb-false s a p) (leb a s) refl)

in-numbers : (s n a e : ℕ) → e - a ≡ n → is_in s (range a e) ≡ leb a s && ltb s e
unfolding is_in any
in-numbers s zero a e q = rw (range-end a e (omega arith)) (sym (none_in s a e (omega arith) (leb a s) refl))
in-numbers s (suc n) a e q =
    rw (range-step a e (omega arith), in-numbers s n (a + 1) e (omega arith))
    (first-or-past s a e (omega arith) (eqb s a) refl)

pub is_in_range : (s a e : ℕ) → is_in s (range a e) ≡ leb a s && ltb s e
is_in_range s a e = in-numbers s (e - a) a e refl

module _ (f : ℕ → Bool) (s : ℕ) where
  same_test : (x : ℕ) → eqb s x ≡ true → f s ≡ f x
  same_test x p = ap f (eqb-true s x p)

  kept_step : (x : ℕ) (xs : List ℕ) → is_in s (keep f xs) ≡ is_in s xs && f s
      → (t u : Bool) → eqb s x ≡ t → f x ≡ u → is_in s (keep f (x ∷ xs)) ≡ is_in s (x ∷ xs) && f s
  unfolding is_in any keep when◌then◌else◌
  kept_step x xs r true true p q = rw (q, p, same_test x p, q)
  kept_step x xs r true false p q = rw (q, p, r, same_test x p, q) (and-false (any (eqb s) xs))
  kept_step x xs r false true p q = rw (q, p, r)
  kept_step x xs r false false p q = rw (q, p, r)

  -- in a list's kept ones: in the list, and passing
  pub is-in-keep : (xs : List ℕ) → is_in s (keep f xs) ≡ is_in s xs && f s
  unfolding is_in any keep
  is-in-keep [] = refl
  is-in-keep (x ∷ xs) = kept_step x xs (is-in-keep xs) (eqb s x) (f x) refl refl

  pub is-in-kept-range : (a e : ℕ) → is_in s (keep f (range a e)) ≡ leb a s && ltb s e && f s
  is-in-kept-range a e = rw (is-in-keep (range a e), is_in_range s a e)
