-- A bit of a byte after that bit, or another, was put on or off: on adds 2 ^ k to a byte without it, which moves no other bit,
-- and off is undone by on. Assumes nothing.
use mathlib.Core.Path.{◌≡◌, refl, sym}
use mathlib.Core.Logic.{inl, inr}
use mathlib.Core.Bool.{true, false}
use Prim.Native.Nat.{ℕ, zero, suc, ◌+◌, ◌-◌, ◌/◌, ◌%◌, ◌^◌, ◌≤◌}
use native.Mathlib.Nat.{add-div_right, div-eq-sub-div, div-div-eq-div-mul, le-div_iff_mul-le, pow-succ'}
use native.Mathlib.Omega.{arith}
use lib.Pow.{pow_pos}
use borrow.Author.Tests.{ne_eqb, eqb-true, eqb-false}
use Rattle.rules.specs.Lists.{when◌then◌else◌}
use Rattle.rules.specs.Bytes.{bit, bit_on, bit_off}
use Rattle.rules.proofs.Laws.{two}

half : (b k : ℕ) → b / 2 ^ suc k ≡ b / 2 / 2 ^ k
half b k = rw (pow-succ', div-div-eq-div-mul)

-- bit k put on where it was off: it is on
on-here : (b k : ℕ) → (b / 2 ^ k % 2 ≡ 1 → ⊥) → (b + 2 ^ k) / 2 ^ k % 2 ≡ 1
on-here b k e = omega (arith, add-div_right b (pow_pos k))

-- and another bit j stays: half the byte has both one lower
on-other : (b k j : ℕ) → (b / 2 ^ k % 2 ≡ 1 → ⊥) → (j ≡ k → ⊥) → (b + 2 ^ k) / 2 ^ j % 2 ≡ b / 2 ^ j % 2
on-other b zero zero e d = absurd (d refl)
on-other b zero (suc j) e d = let same : (b + 1) / 2 ≡ b / 2 = omega arith in rw (half (b + 1) j, half b j, same)
on-other b (suc k) zero e d = omega (arith, pow-succ' 2 k)
on-other b (suc k) (suc j) e d =
    let less : (b + 2 ^ suc k) / 2 ≡ b / 2 + 2 ^ k = omega (arith, pow-succ' 2 k) in
    rw (half (b + 2 ^ suc k) j, half b j, less)
    (on-other (b / 2) k j (rw half at e) (λ q. d (omega arith)))

-- a byte with bit k on is at least 2 ^ k
pub held : (b k : ℕ) → b / 2 ^ k % 2 ≡ 1 → 2 ^ k ≤ b
held b k e = omega (arith, (le-div_iff_mul-le {x = 1} {y = b} (pow_pos k)).0 (omega arith))

-- bit k put off where it was on: what is left is b before bit k was put on
off-here : (b k : ℕ) → b / 2 ^ k % 2 ≡ 1 → (b - 2 ^ k) / 2 ^ k % 2 ≡ 1 → ⊥
off-here b k e = omega (arith, div-eq-sub-div (pow_pos k) (held b k e))

off-other : (b k j : ℕ) → b / 2 ^ k % 2 ≡ 1 → (j ≡ k → ⊥) → (b - 2 ^ k) / 2 ^ j % 2 ≡ b / 2 ^ j % 2
off-other b k j e d =
    let back : b - 2 ^ k + 2 ^ k ≡ b = omega (arith, held b k e) in
    rw back at (sym (on-other (b - 2 ^ k) k j (off-here b k e) d))

pub on-bit-same : (b k : ℕ) → bit (bit_on b k) k ≡ true
unfolding when◌then◌else◌
on-bit-same b k =
    elim (two (bit b k)) [ inl e ↦ rw e e | inr e ↦ rw (e, on-here b k (eqb-false _ _ e)) ]

pub on-bit-other : (b k j : ℕ) → (j ≡ k → ⊥) → bit (bit_on b k) j ≡ bit b j
unfolding when◌then◌else◌
on-bit-other b k j d =
    elim (two (bit b k)) [ inl e ↦ rw e | inr e ↦ rw (e, on-other b k j (eqb-false _ _ e) d) ]

pub off-bit-same : (b k : ℕ) → bit (bit_off b k) k ≡ false
unfolding when◌then◌else◌
off-bit-same b k =
    elim (two (bit b k)) [ inl e ↦ rw e (ne_eqb _ _ (off-here b k (eqb-true _ _ e))) | inr e ↦ rw e e ]

pub off-bit-other : (b k j : ℕ) → (j ≡ k → ⊥) → bit (bit_off b k) j ≡ bit b j
unfolding when◌then◌else◌
off-bit-other b k j d =
    elim (two (bit b k)) [ inl e ↦ rw (e, off-other b k j (eqb-true _ _ e) d) | inr e ↦ rw e ]
