-- Sums over lists: of lists joined, of numbers added, and of larger numbers. Assumes nothing.
use mathlib.Core.Path.{◌≡◌, refl}
use mathlib.Core.List.Memᴰ
use mathlib.Core.List.{List, [], ◌∷◌, ◌++◌}
use Prim.Native.Nat.{ℕ, ◌+◌, ◌≤◌}
use native.Mathlib.Omega.{arith}
use Rattle.rules.specs.Lists.{sum_over}
use Rattle.rules.proofs.Members.{Mem}

pub sum-append : (f : ℕ → ℕ) (xs ys : List ℕ) → sum_over f (xs ++ ys) ≡ sum_over f xs + sum_over f ys
unfolding sum_over
sum-append f [] ys = omega arith
sum-append f (x ∷ xs) ys = omega (arith, sum-append f xs ys)

pub sum_both : (h f g : ℕ → ℕ) (xs : List ℕ) → ((x : ℕ) → h x ≡ f x + g x) → sum_over h xs ≡ sum_over f xs + sum_over g xs
unfolding sum_over
sum_both h f g [] e = refl
sum_both h f g (x ∷ xs) e = omega (arith, sum_both h f g xs e, e x)

pub sum-le : (f g : ℕ → ℕ) (xs : List ℕ) → ((x : ℕ) → Mem x xs → f x ≤ g x) → sum_over f xs ≤ sum_over g xs
unfolding sum_over
sum-le f g [] h = omega arith
sum-le f g (x ∷ xs) h =
    omega (arith, h x (Memᴰ.head refl), sum-le f g xs (λ y m. h y (Memᴰ.tail m)))
