-- Tests of any of a list: by two tests, of what is kept, of two lists in either order. Assumes nothing.
use mathlib.Core.Path.{◌≡◌, refl, sym, ◌∙◌}
use mathlib.Core.Bool.{Bool, true, false, ◌&&◌, ◌||◌, and-false}
use mathlib.Core.List.{List, [], ◌∷◌}
use Prim.Native.Nat.{ℕ}
use native.Mathlib.Omega.{arith}
use lib.Dec.{ltb}
use borrow.Author.Tests.{le-leb}
use Rattle.rules.specs.Lists.{when◌then◌else◌, below, any, keep, is_in}
use Rattle.chart.proofs.Ranges.{below-range, is_in_range}

pub any_same : (f g : ℕ → Bool) → ((x : ℕ) → f x ≡ g x) → (xs : List ℕ) → any f xs ≡ any g xs
unfolding any
any_same f g e [] = refl
any_same f g e (x ∷ xs) = rw (e x, any_same f g e xs)

any_false : (xs : List ℕ) → any (λ x. false) xs ≡ false
unfolding any
any_false [] = refl
any_false (x ∷ xs) = any_false xs

both-or : (a u v b : Bool) → (a && u && b) || (a && v && b) ≡ a && (u || v) && b
both-or false u v b = refl
both-or true true v true = refl
both-or true true true false = refl
both-or true true false false = refl
both-or true false v b = refl

pub any-both : (a b : Bool) (f : ℕ → Bool) (xs : List ℕ) → any (λ x. a && f x && b) xs ≡ a && any f xs && b
unfolding any
any-both a b f [] = rw (and-false a)
any-both a b f (x ∷ xs) = rw (any-both a b f xs) (both-or a (f x) (any f xs) b)

pub any_left : (a : Bool) (f : ℕ → Bool) (xs : List ℕ) → any (λ x. a && f x) xs ≡ a && any f xs
any_left true f xs = refl
any_left false f xs = any_false xs

kept_any : (g : ℕ → Bool) (t : Bool) (x : ℕ) (xs : List ℕ) → any g (when t then x ∷ xs else xs) ≡ t && g x || any g xs
unfolding any when◌then◌else◌
kept_any g true x xs = refl
kept_any g false x xs = refl

pub any-keep : (p g : ℕ → Bool) (xs : List ℕ) → any g (keep p xs) ≡ any (λ x. p x && g x) xs
unfolding any keep
any-keep p g [] = refl
any-keep p g (x ∷ xs) = kept_any g (p x) x (keep p xs) ∙ rw (any-keep p g xs)

or-pairs : (a b c d : Bool) → (a || b) || (c || d) ≡ (a || c) || (b || d)
or-pairs true b c d = refl
or-pairs false true true d = refl
or-pairs false true false d = refl
or-pairs false false c d = refl

any-or : (f g : ℕ → Bool) (xs : List ℕ) → any f xs || any g xs ≡ any (λ x. f x || g x) xs
unfolding any
any-or f g [] = refl
any-or f g (x ∷ xs) = or-pairs (f x) (any f xs) (g x) (any g xs) ∙ rw (any-or f g xs)

-- the order of two tests of any is all one
pub any_swap : (h : ℕ → ℕ → Bool) (xs ys : List ℕ) → any (λ x. any (h x) ys) xs ≡ any (λ y. any (λ x. h x y) xs) ys
unfolding any
any_swap h [] ys = sym (any_false ys)
any_swap h (x ∷ xs) ys = rw (any_swap h xs ys) (any-or (h x) (λ y. any (λ x. h x y) xs) ys)

pub in-below : (j m : ℕ) → is_in j (below m) ≡ ltb j m
in-below j m = rw (below-range m, is_in_range j 0 m, le-leb 0 j (omega arith))
