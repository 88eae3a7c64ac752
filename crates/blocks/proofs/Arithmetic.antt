-- Laws of signed 32-bit values: an answer of the library's that is none where the result does not fit, as the definition has it;
-- a value's bits; division. Assumes nothing.
use mathlib.Core.Path.{◌≡◌, refl, sym, ◌∙◌}
use mathlib.Core.Bool.{Bool, true, false}
use Prim.Native.Nat.{ℕ, suc, ◌-◌, ◌<◌}
use native.Mathlib.Omega.{arith}
use lib.Dec.{ltb, eqb}
use lib.IntN.{ℤ, pos, negsuc}
use lib.Signed.{mag, quot_z, rem_z}
use borrow.Author.Tests.{ltb-true, ltb-false, eqb-true, eqb-false, eq-eqb, ne_eqb}
use mir.Syntax.{w32}
use mir.Val.{SFits, to_z, of_z, bool_byte}
use mir.ValLaws.{to_z-of_z}
use Rattle.std.specs.Prelude.{Option, Some, None, SomeIff}
use Rattle.std.specs.Int.{CanDivide}
use Rattle.rules.specs.Lists.{when◌then◌else◌}
use Rattle.rules.specs.Bytes.{fits, equals, is_zero, truth}
use Rattle.blocks.specs.Values.{within32, quotient_of, remainder_of, combined}
use Rattle.blocks.specs.declared.values.Binary.{Binary}

-- a value, or none where it does not fit
pub as-within : (z : ℤ) (r : Option ℤ) → SomeIff r (SFits w32 z) z → r ≡ within32 z
unfolding within32 fits when◌then◌else◌
as-within z r h = by (ltb (mag z) 2147483648) refl r h
  where
    by : (b : Bool) → ltb (mag z) 2147483648 ≡ b → (r : Option ℤ) → SomeIff r (SFits w32 z) z → r ≡ within32 z
    by true e None h = absurd (h (record { sfits = ltb-true (mag z) 2147483648 e }))
    by true e (Some x) h = rw (e, h.1)
    by false e None h = rw e
    by false e (Some x) h = absurd (omega (arith, h.0.sfits, ltb-false (mag z) 2147483648 e))

-- two tests of equality that go together
eqb_same : (a b c d : ℕ) → (c ≡ d → a ≡ b) → (a ≡ b → c ≡ d) → eqb a b ≡ eqb c d
eqb_same a b c d to from = by (eqb c d) refl
  where
    by : (t : Bool) → eqb c d ≡ t → eqb a b ≡ eqb c d
    by true e = eq-eqb a b (to (eqb-true c d e)) ∙ sym e
    by false e = ne_eqb a b (λ q. eqb-false c d e (from q)) ∙ sym e

-- the machine's test of equality is one of bits
pub equal-bits : (x y : ℤ) → SFits w32 x → SFits w32 y → eqb (of_z w32 x) (of_z w32 y) ≡ equals x y
unfolding equals
equal-bits (pos a) (pos b) fx fy = refl
equal-bits (pos a) (negsuc b) fx fy = ne_eqb a (4294967296 - suc b) (λ e. omega (arith, fx.sfits, fy.sfits))
equal-bits (negsuc a) (pos b) fx fy = ne_eqb (4294967296 - suc a) b (λ e. omega (arith, fx.sfits, fy.sfits))
equal-bits (negsuc a) (negsuc b) fx fy =
    eqb_same (4294967296 - suc a) (4294967296 - suc b) a b
    (λ e. omega (arith, fx.sfits, fy.sfits)) (λ e. omega (arith, fx.sfits, fy.sfits))

pub zero_bits : (y : ℤ) → SFits w32 y → eqb (of_z w32 y) 0 ≡ is_zero y
unfolding is_zero
zero_bits y f = equal-bits y (pos 0) f (record { sfits = omega arith })

-- a test's number
pub truth-bits : (b : Bool) → to_z w32 (bool_byte b) ≡ truth b
unfolding truth
truth-bits true = refl
truth-bits false = refl

-- division by 0, and by another
module _ (y : ℤ) (f : SFits w32 y) where
  zero-divisor : of_z w32 y ≡ 0 → is_zero y ≡ true
  zero-divisor e = sym (zero_bits y f) ∙ eq-eqb (of_z w32 y) 0 e

  divisor : (of_z w32 y ≡ 0 → ⊥) → is_zero y ≡ false
  divisor ne = sym (zero_bits y f) ∙ ne_eqb (of_z w32 y) 0 ne

  module _ (x : ℤ) where
    pub no-remainder : of_z w32 y ≡ 0 → None ≡ remainder_of x y
    unfolding remainder_of when◌then◌else◌
    no-remainder e = rw (zero-divisor e)

    pub remainder_is : (of_z w32 y ≡ 0 → ⊥) → {r : ℤ} → r ≡ rem_z x y → Some r ≡ remainder_of x y
    unfolding remainder_of when◌then◌else◌
    remainder_is ne e = rw (divisor ne, e)

    by-another : 0 < of_z w32 y → (r : Option ℤ) → SomeIff r (CanDivide w32 x y) (quot_z x y) → SomeIff r (SFits w32 (quot_z x y)) (quot_z x y)
    by-another some None h = λ f. h (some, f)
    by-another some (Some q) h = (h.0.1, h.1)

    pub quotient_is : (r : Option ℤ) → SomeIff r (CanDivide w32 x y) (quot_z x y) → r ≡ quotient_of x y
    unfolding quotient_of when◌then◌else◌
    quotient_is r h = by (eqb (of_z w32 y) 0) refl r h
      where
        by : (b : Bool) → eqb (of_z w32 y) 0 ≡ b → (r : Option ℤ) → SomeIff r (CanDivide w32 x y) (quot_z x y) → r ≡ quotient_of x y
        by true e None h = rw (zero-divisor (eqb-true (of_z w32 y) 0 e))
        by true e (Some q) h = absurd (omega (arith, h.0.0, eqb-true (of_z w32 y) 0 e))
        by false e r h =
            let ne : of_z w32 y ≡ 0 → ⊥ = eqb-false (of_z w32 y) 0 e in
            rw (divisor ne) (as-within (quot_z x y) r (by-another (omega (arith, ne)) r h))

-- an op that is told, on operands that were handed on
pub combined-as : (op o : Binary) (x y : ℤ) → SFits w32 x → SFits w32 y → op ≡ o
    → combined o (to_z w32 (of_z w32 x)) (to_z w32 (of_z w32 y)) ≡ combined op x y
combined-as op o x y fx fy e = rw (e, to_z-of_z w32 x fx, to_z-of_z w32 y fy)
