-- Lists of numbers, tests over them, and the choice by a test. Assumes nothing.
use Rattle.std.specs.Prelude.{Bool, true, false, ◌&&◌, ◌||◌, List, [], ◌∷◌, ℕ, zero, suc, ◌+◌, ◌-◌, eqb, leb}

infix 5 when◌then◌else◌
unfoldable pub when◌then◌else◌ : {A : Type 0} → Bool → A → A → A
when true then x else y = x
when false then x else y = y

-- a, a + 1, .. : n numbers
unfoldable pub up_from : ℕ → ℕ → List ℕ
up_from a zero = []
up_from a (suc n) = a ∷ up_from (a + 1) n

-- n, n - 1, .. 1
unfoldable pub down_from : ℕ → List ℕ
down_from zero = []
down_from (suc n) = suc n ∷ down_from n

-- the numbers below n
unfoldable pub below : ℕ → List ℕ
below n = up_from 0 n

-- from a up to e, without e
unfoldable pub range : ℕ → ℕ → List ℕ
range a e = up_from a (e - a)

-- n is lo, hi or between
abbrev pub within : ℕ → ℕ → ℕ → Bool
within lo hi n = leb lo n && leb n hi

unfoldable pub every : {A : Type 0} → (A → Bool) → List A → Bool
every f [] = true
every f (x ∷ xs) = f x && every f xs

unfoldable pub any : {A : Type 0} → (A → Bool) → List A → Bool
any f [] = false
any f (x ∷ xs) = f x || any f xs

-- each test of a list passes
unfoldable pub all : List Bool → Bool
all ts = every (λ t. t) ts

unfoldable pub keep : {A : Type 0} → (A → Bool) → List A → List A
keep f [] = []
keep f (x ∷ xs) = when f x then x ∷ keep f xs else keep f xs

-- the first that passes, and 0 if none does
unfoldable pub first : (ℕ → Bool) → List ℕ → ℕ
first f [] = 0
first f (x ∷ xs) = when f x then x else first f xs

unfoldable pub is_in : ℕ → List ℕ → Bool
is_in n xs = any (eqb n) xs

-- the sum of f over a list
unfoldable pub sum_over : {A : Type 0} → (A → ℕ) → List A → ℕ
sum_over f [] = 0
sum_over f (x ∷ xs) = f x + sum_over f xs

-- a, unless that is 0: then b
infixr 20 ◌else◌
unfoldable pub ◌else◌ : ℕ → ℕ → ℕ
zero else b = b
suc a else b = suc a
