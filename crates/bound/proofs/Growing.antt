-- The numbers below t + 1 are those below t, and t: so a sum over them, a sum over those that pass, and a test of any grow.
-- Assumes nothing.
use mathlib.Core.Path.{◌≡◌, refl, ap, ◌∙◌}
use mathlib.Core.Bool.{Bool, true, false, ◌||◌, or-false, or_assoc}
use mathlib.Core.List.{List, [], ◌∷◌, ◌++◌, append-nil}
use Prim.Native.Nat.{ℕ, zero, suc, ◌+◌, ◌≤◌}
use native.Mathlib.Nat.{add-zero, zero-add}
use native.Mathlib.Numerals.{add-one}
use native.Mathlib.Omega.{arith}
use Rattle.rules.specs.Lists.{when◌then◌else◌, up_from, below, any, keep, sum_over}
use Rattle.rules.proofs.Sums.{sum-append}

up_more : (a n : ℕ) → up_from a (suc n) ≡ up_from a n ++ ((a + n) ∷ [])
unfolding up_from
up_more a zero = rw (add-zero a)
up_more a (suc n) =
    let e : a + 1 + n ≡ a + suc n = omega arith in
    ap (λ (l : List ℕ). a ∷ l) (up_more (a + 1) n) ∙ ap (λ (m : ℕ). a ∷ up_from (a + 1) n ++ (m ∷ [])) e

below_more : (t : ℕ) → below (t + 1) ≡ below t ++ (t ∷ [])
unfolding below
below_more t = rw (add-one t, up_more 0 t, zero-add t)

-- a loop that goes on while t is below e ends at e
pub ended : {t e : ℕ} → t ≤ e → e ≤ t → t ≡ e
ended h l = omega arith

any_append : (f : ℕ → Bool) (xs ys : List ℕ) → any f (xs ++ ys) ≡ any f xs || any f ys
unfolding any
any_append f [] ys = refl
any_append f (x ∷ xs) ys = rw (any_append f xs ys, or_assoc (f x) (any f xs) (any f ys))

pub any_none : (f : ℕ → Bool) → any f (below 0) ≡ false
unfolding any below up_from
any_none f = refl

pub any-more : (f : ℕ → Bool) (t : ℕ) → any f (below (t + 1)) ≡ any f (below t) || f t
unfolding any
any-more f t = rw (below_more t, any_append f (below t) (t ∷ []), or-false (f t))

pub sum-none : (w : ℕ → ℕ) → sum_over w (below 0) ≡ 0
unfolding sum_over below up_from
sum-none w = refl

pub sum_more : (w : ℕ → ℕ) (t : ℕ) → sum_over w (below (t + 1)) ≡ sum_over w (below t) + w t
unfolding sum_over
sum_more w t = rw (below_more t, sum-append w (below t) (t ∷ []), add-zero (w t))

test-append : (t : Bool) (x : ℕ) (l m : List ℕ) → (when t then x ∷ (l ++ m) else (l ++ m)) ≡ (when t then x ∷ l else l) ++ m
unfolding when◌then◌else◌
test-append true x l m = refl
test-append false x l m = refl

keep_append : (f : ℕ → Bool) (xs ys : List ℕ) → keep f (xs ++ ys) ≡ keep f xs ++ keep f ys
unfolding keep
keep_append f [] ys = refl
keep_append f (x ∷ xs) ys = rw (keep_append f xs ys) (test-append (f x) x (keep f xs) (keep f ys))

module _ (w : ℕ → ℕ) (p : ℕ → Bool) where
  pub kept-none : sum_over w (keep p (below 0)) ≡ 0
  unfolding sum_over keep below up_from
  kept-none = refl

  module _ (t : ℕ) where
    pub kept_more : p t ≡ true → sum_over w (keep p (below (t + 1))) ≡ sum_over w (keep p (below t)) + w t
    unfolding keep when◌then◌else◌ sum_over
    kept_more e =
        rw (below_more t, keep_append p (below t) (t ∷ []), e, sum-append w (keep p (below t)) (t ∷ []), add-zero (w t))

    pub kept_same : p t ≡ false → sum_over w (keep p (below (t + 1))) ≡ sum_over w (keep p (below t))
    unfolding keep when◌then◌else◌
    kept_same e = rw (below_more t, keep_append p (below t) (t ∷ []), e, append-nil (keep p (below t)))
