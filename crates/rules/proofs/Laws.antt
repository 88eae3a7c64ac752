-- Laws of tests: what they give joined by 'and' and by 'or', where one chooses, over a list, and in the row of the refusals.
-- Assumes nothing.
use mathlib.Core.Path.{◌≡◌, refl}
use mathlib.Core.Logic.{◌⊎◌, inl, inr}
use mathlib.Core.Bool.{Bool, true, false, ◌&&◌, ◌||◌, true≢false, false≢true, or-true}
use mathlib.Core.List.{List, [], ◌∷◌}
use Prim.Native.Nat.{ℕ, zero, suc, ◌<◌}
use native.Mathlib.Omega.{arith}
use lib.ListN.{length, get_or}
use Rattle.rules.specs.Lists.{when◌then◌else◌, every, ◌else◌}
use Rattle.rules.specs.Accept.{◌unless◌next◌}

pub both : (a b : Bool) → a && b ≡ true → (a ≡ true) × (b ≡ true)
both true b e = (refl, e)
both false b e = absurd (false≢true e)

pub and_left : (a b : Bool) → (a && b) ≡ true → a ≡ true
and_left a b e = (both a b e).0

pub and_right : (a b : Bool) → (a && b) ≡ true → b ≡ true
and_right a b e = (both a b e).1

pub and_both : (a b : Bool) → a ≡ true → b ≡ true → (a && b) ≡ true
and_both a b e f = rw (e, f)

pub or_cases : (a b : Bool) → (a || b) ≡ true → (a ≡ true) ⊎ (b ≡ true)
or_cases true b e = inl refl
or_cases false b e = inr e

pub or_left : (a b : Bool) → a ≡ true → (a || b) ≡ true
or_left a b e = rw e

pub or_right : (a b : Bool) → b ≡ true → (a || b) ≡ true
or_right a b e = rw e (or-true a)

pub or_no : (a b : Bool) → a ≡ false → b ≡ false → (a || b) ≡ false
or_no a b e f = rw (e, f)

pub two : (b : Bool) → (b ≡ true) ⊎ (b ≡ false)
two true = inl refl
two false = inr refl

pub clash : {A : Type 0} {b : Bool} → b ≡ true → b ≡ false → A
clash e f = absurd (true≢false (rw e at f))

pub not_yes : (b : Bool) → (b ≡ true → ⊥) → b ≡ false
not_yes true f = absurd (f refl)
not_yes false f = refl

pub if-false : {A : Type 0} (b : Bool) (x y : A) → b ≡ false → (when b then x else y) ≡ y
unfolding when◌then◌else◌
if-false b x y e = rw e

-- a test that passes at each of a list passes at the one at k
pub every-at : {A : Type 0} (f : A → Bool) (xs : List A) → every f xs ≡ true → (k : ℕ) (d : A) → k < length xs
    → f (get_or xs k d) ≡ true
unfolding every
every-at f [] e k d h = absurd (omega arith)
every-at f (x ∷ xs) e zero d h = and_left (f x) _ e
every-at f (x ∷ xs) e (suc k) d h = every-at f xs (and_right (f x) _ e) k d (omega arith)

-- where no refusal applies, each test passes
pub unless-zero : (k : ℕ) (b : Bool) (r : ℕ) → (suc k unless b next r) ≡ 0 → (b ≡ true) × (r ≡ 0)
unfolding ◌unless◌next◌
unless-zero k true r e = (refl, e)
unless-zero k false r e = absurd (omega arith)

pub else-zero : (a b : ℕ) → (a else b) ≡ 0 → (a ≡ 0) × (b ≡ 0)
unfolding ◌else◌
else-zero zero b e = (refl, e)
else-zero (suc a) b e = absurd (omega arith)
