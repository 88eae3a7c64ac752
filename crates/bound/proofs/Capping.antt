-- Sums that stop above the limit: it is all one whether the parts or only the whole stop there. Assumes nothing.
use mathlib.Core.Path.{◌≡◌, refl, ap, ◌∙◌}
use mathlib.Core.Bool.{Bool, true, false}
use mathlib.Core.List.{List, [], ◌∷◌}
use Prim.Native.Nat.{ℕ, ◌+◌, ◌≤◌}
use native.Mathlib.Nat.{add-zero}
use native.Mathlib.Omega.{arith}
use Rattle.rules.specs.Lists.{when◌then◌else◌, below, keep, sum_over}
use Rattle.bound.specs.Sums.{capped}
use Rattle.bound.proofs.Growing.{sum-none, sum_more, kept-none, kept_more, kept_same, ended}

-- one part more
pub plus-capped : {sum part r : ℕ} (s p : ℕ) → sum ≡ capped s → part ≡ capped p → r ≡ capped (sum + part) → r ≡ capped (s + p)
plus-capped s p a b c = omega arith

pub add-capped : (a b c d : ℕ) → capped a ≡ capped b → capped c ≡ capped d → capped (a + c) ≡ capped (b + d)
add-capped a b c d p q = omega arith

pub capped-once : {m : ℕ} (n : ℕ) → m ≡ capped n → capped m ≡ capped n
capped-once n e = omega arith

one_more : (a b c part : ℕ) {sum : ℕ} → sum ≡ capped (a + b) → capped part ≡ capped c → capped (sum + part) ≡ capped (a + (b + c))
one_more a b c part p q = omega arith

-- a state's run
pub run-capped : (d a b m : ℕ) {o i s r v : ℕ} → o ≡ capped a → i ≡ capped b → s ≡ capped (1 + d + o) → r ≡ capped (s + i)
    → v ≡ capped (r + m) → v ≡ capped (1 + d + a + b + m)
run-capped d a b m p q s r v = omega arith

-- sums of parts that are alike up to the limit
pub sum-capped : (f g : ℕ → ℕ) → ((x : ℕ) → capped (f x) ≡ capped (g x)) → (xs : List ℕ) → capped (sum_over f xs) ≡ capped (sum_over g xs)
unfolding sum_over
sum-capped f g e [] = refl
sum-capped f g e (x ∷ xs) = omega (arith, e x, sum-capped f g e xs)

pub sum_zeros : (xs : List ℕ) → sum_over (λ x. 0) xs ≡ 0
unfolding sum_over
sum_zeros [] = refl
sum_zeros (x ∷ xs) = rw (sum_zeros xs)

-- a part that only one way has
pub either-capped : (t : Bool) (a b : ℕ) → capped (a + (when t then 0 else capped b)) ≡ capped (a + (when t then 0 else b))
unfolding when◌then◌else◌
either-capped true a b = refl
either-capped false a b = omega arith

-- a loop that adds up the parts of the numbers to a, before number n
pub record Added (w : ℕ → ℕ) (a n sum : ℕ) : Type 0 where
  pub so_far : sum ≡ capped (a + sum_over w (below n))

module _ {w : ℕ → ℕ} {a : ℕ} where
  pub added_none : {sum : ℕ} → sum ≡ capped a → Added w a 0 sum
  added_none s = record { so_far = rw (sum-none w, add-zero a) s }

  module _ {n sum : ℕ} (p : Added w a n sum) where
    pub added_more : (part : ℕ) {r : ℕ} → capped part ≡ capped (w n) → r ≡ capped (sum + part) → Added w a (n + 1) r
    added_more part q s =
        record { so_far = rw (sum_more w n) (s ∙ one_more a (sum_over w (below n)) (w n) part p.so_far q) }

    pub added-all : {e m : ℕ} → n ≤ e → e ≤ n → e ≡ m → sum ≡ capped (a + sum_over w (below m))
    added-all u l q = p.so_far ∙ ap (λ (k : ℕ). capped (a + sum_over w (below k))) (ended u l ∙ q)

-- from 0 on
pub from-none : (n : ℕ) {sum : ℕ} → sum ≡ capped (0 + n) → sum ≡ capped n
from-none n s = omega arith

-- one that adds up the parts of those that pass
pub record Kept (w : ℕ → ℕ) (t : ℕ → Bool) (n sum : ℕ) : Type 0 where
  pub so_far : sum ≡ capped (sum_over w (keep t (below n)))

module _ {w : ℕ → ℕ} {t : ℕ → Bool} where
  pub kept-start : Kept w t 0 0
  kept-start = record { so_far = rw (kept-none w t) }

  module _ {n sum : ℕ} (p : Kept w t n sum) where
    pub kept-add : t n ≡ true → {part r : ℕ} → part ≡ capped (w n) → r ≡ capped (sum + part) → Kept w t (n + 1) r
    kept-add on q s =
        record { so_far = rw (kept_more w t n on) (plus-capped (sum_over w (keep t (below n))) (w n) p.so_far q s) }

    pub kept-skip : t n ≡ false → {r : ℕ} → r ≡ sum → Kept w t (n + 1) r
    kept-skip off q = record { so_far = rw (kept_same w t n off) (q ∙ p.so_far) }

    pub kept-all : {e m : ℕ} → n ≤ e → e ≤ n → e ≡ m → sum ≡ capped (sum_over w (keep t (below m)))
    kept-all u l q = p.so_far ∙ ap (λ (k : ℕ). capped (sum_over w (keep t (below k)))) (ended u l ∙ q)
