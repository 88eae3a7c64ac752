-- What was put is read back, the width in bytes a parameter: a number of so many bytes, and a signed value that they hold. The trait
-- of the fields says so of each of its types, so these laws stand here. Assumes nothing.
use mathlib.Core.Path.{◌≡◌, refl, sym, ap, ◌∙◌}
use mathlib.Core.List.{List}
use Prim.Native.Nat.{ℕ, zero, suc, ◌+◌, ◌-◌, ◌*◌, ◌/◌, ◌%◌, ◌^◌, ◌≤◌, ◌<◌}
use native.Mathlib.Nat.{mod-eq_of_lt, pow-suc, pow-succ'}
use native.Mathlib.Numerals.{add-one}
use native.Mathlib.Omega.{arith}
use lib.Arith.{mod-mul}
use lib.IntN.{ℤ, pos, negsuc}
use lib.ListN.{length, set, length-set}
use lib.Pow.{pow-add}
use lib.Seq.{get_or-set_same}
use lib.Signed.{mag}
use borrow.Author.Tests.{lt-ltb, le-ltb}
use Rattle.rules.specs.Lists.{when◌then◌else◌}
use Rattle.rules.specs.Bytes.{byte, field, bytes_of, put, signed, unsigned}
use Rattle.rules.proofs.Puts.{put_other}

-- no bytes put; w + 1 bytes put, lowest first
pub put-none : (b : List ℕ) (i n : ℕ) → put 0 b i n ≡ b
unfolding put bytes_of
put-none b i n = refl

pub put-suc : (w : ℕ) (b : List ℕ) (i n : ℕ) → put (suc w) b i n ≡ put w (set b i (n % 256)) (i + 1) (n / 256)
unfolding put bytes_of
put-suc w b i n = rw add-one

-- the lowest w + 1 bytes of n, from its lowest byte and the rest
pub lowest : (w n : ℕ) → n % 256 ^ suc w ≡ n % 256 + 256 * (n / 256 % 256 ^ w)
lowest w n = rw pow-suc (mod-mul n (positive w) (omega arith) ∙ omega arith)
  where
    positive : (w : ℕ) → 0 < 256 ^ w
    positive zero = omega arith
    positive (suc w) = rw pow-suc (omega (arith, positive w))

-- what was put is read back
pub field_put : (w : ℕ) (b : List ℕ) (i n : ℕ) → i + w ≤ length b → field w (put w b i n) i ≡ n % 256 ^ w
field_put zero b i n h = omega arith
field_put (suc w) b i n h =
    let after : List ℕ = set b i (n % 256) in
    let here : byte (put w after (i + 1) (n / 256)) i ≡ n % 256 =
    put_other w after (i + 1) (n / 256) i (omega arith) ∙ get_or-set_same b i (n % 256) 0 (omega arith) in
    let rest = field_put w after (i + 1) (n / 256) (rw length-set (omega arith)) in
    rw (put-suc w b i n) (omega (arith, here, rest, lowest w n))

-- `signed` in each half of the numbers of w bytes
pub signed_low : (w n : ℕ) → n < 2 ^ (8 * w - 1) → signed w n ≡ pos n
unfolding signed when◌then◌else◌
signed_low w n h = rw (lt-ltb n (2 ^ (8 * w - 1)) h)

pub signed_high : (w n : ℕ) → 2 ^ (8 * w - 1) ≤ n → n < 2 ^ (8 * w) → signed w n ≡ negsuc (2 ^ (8 * w) - suc n)
unfolding signed when◌then◌else◌
signed_high w n h l = rw (le-ltb n (2 ^ (8 * w - 1)) h, lt-ltb n (2 ^ (8 * w)) l)

-- `unsigned` on each side of zero
pub unsigned-low : (w n : ℕ) → unsigned w (pos n) ≡ n
unfolding unsigned
unsigned-low w n = refl

pub unsigned-high : (w n : ℕ) → unsigned w (negsuc n) ≡ 2 ^ (8 * w) - suc n
unfolding unsigned
unsigned-high w n = refl

-- w bytes have two halves
halves : (w : ℕ) → 0 < w → 2 ^ (8 * w) ≡ 2 ^ (8 * w - 1) * 2
halves w h =
    let e : 8 * w ≡ suc (8 * w - 1) = omega arith in
    ap (λ (k : ℕ). 2 ^ k) e ∙ pow-suc 2 (8 * w - 1)

-- a value that w bytes hold is its number's
pub signed-unsigned : (w : ℕ) (v : ℤ) → 0 < w → mag v < 2 ^ (8 * w - 1) → signed w (unsigned w v) ≡ v
signed-unsigned w (pos n) h f = rw (unsigned-low w n) (signed_low w n f)
signed-unsigned w (negsuc n) h f =
    rw (unsigned-high w n)
    (signed_high w (2 ^ (8 * w) - suc n) (omega (arith, halves w h)) (omega (arith, halves w h)) ∙ ap negsuc (omega (arith, halves w h)))

-- a number that w bytes hold comes back
pub number-back : (w v : ℕ) → v < 256 ^ w → (b : List ℕ) (i : ℕ) → i + w ≤ length b → field w (put w b i v) i ≡ v
number-back w v f b i h = field_put w b i v h ∙ mod-eq_of_lt f

-- and one byte as the byte that it is
pub byte-back : (v : ℕ) → v < 256 → (b : List ℕ) (i : ℕ) → i + 1 ≤ length b → byte (put 1 b i v) i ≡ v
byte-back v f b i h = let e = number-back 1 v f b i h in omega arith

-- what w bytes hold, by bits and by bytes
by-bytes : (w : ℕ) → 2 ^ (8 * w) ≡ 256 ^ w
by-bytes zero = refl
by-bytes (suc w) =
    let e : 8 * suc w ≡ 8 + 8 * w = omega arith in
    ap (λ (k : ℕ). 2 ^ k) e ∙ pow-add 2 8 (8 * w) ∙ ap (λ (k : ℕ). 256 * k) (by-bytes w) ∙ sym (pow-succ' 256 w)

-- a signed value that w bytes hold comes back
pub value-back : (w : ℕ) (v : ℤ) → 0 < w → mag v < 2 ^ (8 * w - 1) → (b : List ℕ) (i : ℕ) → i + w ≤ length b → signed w (field w (put w b i (unsigned w v)) i) ≡ v
value-back w v p f b i h = ap (signed w) (number-back w (unsigned w v) (rw (by-bytes w) at (bound v f)) b i h) ∙ signed-unsigned w v p f
  where
    bound : (v : ℤ) → mag v < 2 ^ (8 * w - 1) → unsigned w v < 2 ^ (8 * w)
    bound (pos n) f = rw (unsigned-low w n) (omega (arith, halves w p))
    bound (negsuc n) f = rw (unsigned-high w n) (omega (arith, halves w p))
