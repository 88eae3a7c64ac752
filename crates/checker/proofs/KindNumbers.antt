-- A number is a kind's where it is 2 at most, and a leaf's where it is 0. Assumes nothing.
use Rattle.std.proofs.Common.{◌≡◌, refl, Bool, true, false, ℕ, zero, suc, Some, arith}
use lib.Dec.{eqb, leb}
use borrow.Author.Tests.{ne_eqb, lt-leb}
use Rattle.std.specs.Option.{is_some, option_eq}
use Rattle.rules.specs.Lists.{when◌then◌else◌}
use Rattle.chart.specs.Read.{kind_named}
use Rattle.chart.specs.declared.kinds.Kind.{Kind}
use Rattle.chart.specs.declared.kinds.Kind.TheVariants.{Leaf, OneOf, AllOf}

pub kinds-below : (k : ℕ) → is_some (kind_named k) ≡ leb k 2
unfolding when◌then◌else◌
kinds-below zero = refl
kinds-below (suc zero) = refl
kinds-below (suc (suc zero)) = refl
kinds-below (suc (suc (suc n))) =
    rw
    (ne_eqb (suc (suc (suc n))) 0 (λ e. omega arith), ne_eqb (suc (suc (suc n))) 1 (λ e. omega arith), ne_eqb (suc (suc (suc n))) 2 (λ e. omega arith), lt-leb (suc (suc (suc n))) 2 (omega arith))
    refl

-- by any equality of kinds
pub leaf-is : (same : Kind → Kind → Bool) → same Leaf Leaf ≡ true → same OneOf Leaf ≡ false → same AllOf Leaf ≡ false
    → (k : ℕ) → option_eq same (kind_named k) (Some Leaf) ≡ eqb k 0
unfolding when◌then◌else◌
leaf-is same a b c zero = a
leaf-is same a b c (suc zero) = b
leaf-is same a b c (suc (suc zero)) = c
leaf-is same a b c (suc (suc (suc n))) =
    rw
    (ne_eqb (suc (suc (suc n))) 0 (λ e. omega arith), ne_eqb (suc (suc (suc n))) 1 (λ e. omega arith), ne_eqb (suc (suc (suc n))) 2 (λ e. omega arith))
    refl
