-- The active bits, as the code reads and writes them. A byte in which bit k is off has room for it, and one in which it is on
-- can lose it; so the byte at the place of a state's bit, read and stored again with the bit changed, gives the rules' image.
-- Assumes nothing.
use mathlib.Core.Path.{◌≡◌, sym, ap, ◌∙◌}
use Prim.Native.Nat.{ℕ, zero, suc, ◌+◌, ◌-◌, ◌*◌, ◌/◌, ◌%◌, ◌^◌, ◌<◌}
use native.Mathlib.Nat.{one-mul, mod-eq_of_lt, mod-lt, div-div-eq-div-mul, pow-suc, pow-succ'}
use native.Mathlib.Omega.{arith}
use lib.Pow.{pow-lt}
use lib.Dec.{lit<}
use lib.ListN.{set}
use lib.Seq.{set-get_or}
use mir.Syntax.{w8}
use mir.Val.{Fits}
use borrow.Author.Tests.{eq-eqb, ne_eqb}
use Rattle.rules.specs.Lists.{when◌then◌else◌}
use Rattle.rules.specs.Bytes.{Bytes, byte, put}
use Rattle.rules.specs.Image.{activate, deactivate}
use Rattle.fields.proofs.Laws.{put_one}

-- a number below 2 ^ n with bit k off has room for it
room : (n k b : ℕ) → k < n → b < 2 ^ n → (b / 2 ^ k % 2 ≡ 1 → ⊥) → b + 2 ^ k < 2 ^ n
room zero k b l h e = omega arith
room (suc n) zero b l h e = omega (arith, pow-suc 2 n, e)
room (suc n) (suc k) b l h e =
    let half : b / 2 / 2 ^ k ≡ b / 2 ^ suc k = div-div-eq-div-mul b 2 (2 ^ k) ∙ ap (λ (m : ℕ). b / m) (sym (pow-succ' 2 k)) in
    let rest = room n k (b / 2) (omega arith) (omega (arith, pow-suc 2 n)) (λ q. e (ap (λ (m : ℕ). m % 2) (sym half) ∙ q)) in
    omega (arith, rest, pow-suc 2 n, pow-suc 2 k)

-- the bit of a state as the code makes it
shifted : (s : ℕ) → (1 * 2 ^ (s % 8)) % 256 ≡ 2 ^ (s % 8)
shifted s = ap (λ (n : ℕ). n % 256) (one-mul (2 ^ (s % 8))) ∙ mod-eq_of_lt (pow-lt (mod-lt s (lit< tt)))

-- a byte stored at the place of a state's bit
stored : (im : Bytes) (s : ℕ) {at v w : ℕ} {after : Bytes} → at ≡ 2 + s / 8 → after ≡ put 1 im at v → v ≡ w
    → w < 256 → after ≡ set im (2 + s / 8) w
stored im s {w = w} p e q h = rw (e, p, q) (put_one im (2 + s / 8) w h)

module _ (im : Bytes) (s : ℕ) {at b : ℕ} (here : at ≡ 2 + s / 8) (read : b ≡ byte im at) where
  own : byte im (2 + s / 8) ≡ b
  own = sym (read ∙ ap (byte im) here)

  -- a bit that is off, turned on or left
  module _ (off : b / 2 ^ (s % 8) % 2 ≡ 1 → ⊥) where
    more : b < 256 → b + 2 ^ (s % 8) < 256
    more small = room 8 (s % 8) b (mod-lt s (lit< tt)) small off

    pub on_fits : b < 256 → Fits w8 (b + 1 * 2 ^ (s % 8) % 256)
    on_fits small = rw (shifted s) (record { fits = more small })

    pub on-stored : b < 256 → {at₂ : ℕ} {after : Bytes} → at₂ ≡ 2 + s / 8 → after ≡ put 1 im at₂ (b + 1 * 2 ^ (s % 8) % 256)
        → after ≡ activate im s
    unfolding when◌then◌else◌
    on-stored small p e = rw (own, ne_eqb (b / 2 ^ (s % 8) % 2) 1 off) (stored im s p e (rw (shifted s)) (more small))

    pub off-kept : im ≡ deactivate im s
    unfolding when◌then◌else◌
    off-kept = rw (own, ne_eqb (b / 2 ^ (s % 8) % 2) 1 off, ← own) (sym (set-get_or im (2 + s / 8) 0))

  -- a bit that is on, turned off or left
  module _ (on : b / 2 ^ (s % 8) % 2 ≡ 1) where
    pub off-stored : b < 256 → {at₂ : ℕ} {after : Bytes} → at₂ ≡ 2 + s / 8 → after ≡ put 1 im at₂ (b - 1 * 2 ^ (s % 8) % 256)
        → after ≡ deactivate im s
    unfolding when◌then◌else◌
    off-stored small p e = rw (own, eq-eqb (b / 2 ^ (s % 8) % 2) 1 on) (stored im s p e (rw (shifted s)) (omega arith))

    pub on-kept : im ≡ activate im s
    unfolding when◌then◌else◌
    on-kept = rw (own, eq-eqb (b / 2 ^ (s % 8) % 2) 1 on, ← own) (sym (set-get_or im (2 + s / 8) 0))
