-- Laws of two's complement at every width: a number of w bytes is its value's; and the machine's casts between the two types of a
-- width are `signed` and `unsigned`. Assumes nothing.
use mathlib.Core.Path.{◌≡◌, refl, sym, ap, ◌∙◌}
use mathlib.Core.Bool.{Bool, true, false}
use Prim.Native.Nat.{ℕ, suc, ◌-◌, ◌*◌, ◌^◌, ◌≤◌, ◌<◌}
use native.Mathlib.Omega.{arith}
use lib.Dec.{ltb}
use lib.IntN.{ℤ, pos, negsuc}
use borrow.Author.Tests.{ltb-true, ltb-false}
use mir.Syntax.{Width, w8, w16, w32, w64, w128}
use mir.Val.{SFits, bits, hbits, bytes, to_z, of_z}
use mir.ValLaws.{to_z-of_z, to_z_pos, to_z-Fits}
use Rattle.rules.specs.Bytes.{signed, unsigned}
use Rattle.fields.specs.Back.{signed_low, signed_high, unsigned-low, unsigned-high}
pub use Rattle.fields.specs.Back.{signed-unsigned}

-- a number of w bytes is its value's
pub unsigned_signed : (w n : ℕ) → n < 2 ^ (8 * w) → unsigned w (signed w n) ≡ n
unsigned_signed w n f = by (ltb n (2 ^ (8 * w - 1))) refl
  where
    low : n < 2 ^ (8 * w - 1) → unsigned w (signed w n) ≡ n
    low h = rw (signed_low w n h) (unsigned-low w n)

    high : 2 ^ (8 * w - 1) ≤ n → unsigned w (signed w n) ≡ n
    high h = rw (signed_high w n h f, unsigned-high w (2 ^ (8 * w) - suc n)) (omega arith)

    by : (t : Bool) → ltb n (2 ^ (8 * w - 1)) ≡ t → unsigned w (signed w n) ≡ n
    by true e = low (ltb-true n (2 ^ (8 * w - 1)) e)
    by false e = high (ltb-false n (2 ^ (8 * w - 1)) e)

-- the machine's widths, which it counts in bits, in bytes
full : (w : Width) → 8 * bytes w ≡ bits w
full w8 = refl
full w16 = refl
full w32 = refl
full w64 = refl
full w128 = refl

half : (w : Width) → 8 * bytes w - 1 ≡ hbits w
half w8 = refl
half w16 = refl
half w32 = refl
half w64 = refl
half w128 = refl

-- an unsigned number cast to the signed type of its width is its value
pub cast_signed-is : (w : Width) (n : ℕ) → n < 2 ^ bits w → to_z w n ≡ signed (bytes w) n
cast_signed-is w n f = by (ltb n (2 ^ hbits w)) refl
  where
    by : (t : Bool) → ltb n (2 ^ hbits w) ≡ t → to_z w n ≡ signed (bytes w) n
    by true e =
        let h : n < 2 ^ hbits w = ltb-true n (2 ^ hbits w) e in
        to_z_pos w n h ∙ sym (signed_low (bytes w) n (rw (half w) h))
    by false e =
        let h : 2 ^ hbits w ≤ n = ltb-false n (2 ^ hbits w) e in
        rw e (sym (rw (full w) at (signed_high (bytes w) n (rw (half w) h) (rw (full w) f))))

-- a signed value cast to the unsigned type is its number
pub cast_unsigned-is : (w : Width) (v : ℤ) → of_z w v ≡ unsigned (bytes w) v
cast_unsigned-is w (pos n) = sym (unsigned-low (bytes w) n)
cast_unsigned-is w (negsuc n) = sym (rw (full w) at (unsigned-high (bytes w) n))

-- and so of what the code holds, which is its bits
pub signed-held : (w : Width) (n : ℕ) (v : ℤ) → n < 2 ^ bits w → v ≡ to_z w n → to_z w (of_z w v) ≡ signed (bytes w) n
signed-held w n v f e = rw e (to_z-of_z w (to_z w n) (to_z-Fits w n (record { fits = f })) ∙ cast_signed-is w n f)

pub unsigned-held : (w : Width) (v : ℤ) (n : ℕ) → SFits w v → n ≡ of_z w (to_z w (of_z w v)) → n ≡ unsigned (bytes w) v
unsigned-held w v n f e = e ∙ ap (of_z w) (to_z-of_z w v f) ∙ cast_unsigned-is w v
