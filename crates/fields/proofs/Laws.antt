-- Laws of little-endian fields, the width in bytes a parameter, by recursion over it. Assumes nothing.
use mathlib.Core.Path.{◌≡◌, refl, sym, ap, ◌∙◌}
use mathlib.Core.List.{List, append_assoc}
use mathlib.Core.Logic.{◌⊎◌, inl, inr}
use Prim.Native.Nat.{ℕ, zero, suc, ◌+◌, ◌-◌, ◌*◌, ◌/◌, ◌%◌, ◌^◌, ◌≤◌, ◌<◌}
use native.Mathlib.Nat.{mul_assoc, add-zero, zero-add, suc-add, pow-suc, pow-succ', div-div-eq-div-mul}
use native.Mathlib.Omega.{arith}
use lib.ListN.{length, set, take, drop, get_or-eq_default}
use lib.Seq.{get_or-drop, set_out, sets-eq}
use borrow.Rule.Slice.PartMut.{put_mid, Post-is}
use Rattle.std.specs.Int.{byte_at, bytes_low_first}
use Rattle.rules.specs.Bytes.{byte, field, bytes_of, put}
use Rattle.fields.specs.Back.{put-none, put-suc, lowest}
pub use Rattle.fields.specs.Back.{field_put}
use Rattle.rules.proofs.Puts.{length-bytes, length-put, put_other}

-- a field of one byte is the byte
pub field-one : (b : List ℕ) (i : ℕ) → field 1 b i ≡ byte b i
field-one b i = omega arith

-- a field of j + k bytes is one of j bytes and one of k after it
pub field-split : (j k : ℕ) (b : List ℕ) (i : ℕ) → field (j + k) b i ≡ field j b i + 256 ^ j * field k b (i + j)
field-split zero k b i = rw (zero-add k, add-zero i) (omega arith)
field-split (suc j) k b i =
    let e : i + 1 + j ≡ i + suc j = omega arith in
    let rest = rw e at (field-split j k b (i + 1)) in
    rw suc-add (omega (arith, rest, scale (field k b (i + suc j))))
  where
    scale : (x : ℕ) → 256 ^ suc j * x ≡ 256 * (256 ^ j * x)
    scale x = rw (pow-succ', mul_assoc)

-- past the end a field is 0
pub field_out : (w : ℕ) (b : List ℕ) (i : ℕ) → length b ≤ i → field w b i ≡ 0
field_out zero b i h = refl
field_out (suc w) b i h = omega (arith, get_or-eq_default b 0 h, field_out w b (i + 1) (omega arith))

-- so a field that runs past the end is that of the bytes before the end
pub field-short : (j k : ℕ) (b : List ℕ) (i : ℕ) → length b ≤ i + j → field (j + k) b i ≡ field j b i
field-short j k b i h = field-split j k b i ∙ rw (field_out k b (i + j) h) (omega arith)

-- a field of a part stands that much further on in the whole
pub byte-drop : (b : List ℕ) (a i : ℕ) → byte (drop a b) i ≡ byte b (a + i)
byte-drop b a i = get_or-drop a b i 0

pub field-drop : (w : ℕ) (b : List ℕ) (a i : ℕ) → field w (drop a b) i ≡ field w b (a + i)
field-drop zero b a i = refl
field-drop (suc w) b a i =
    let e : a + (i + 1) ≡ a + i + 1 = omega arith in
    let rest = rw e at (field-drop w b a (i + 1)) in
    omega (arith, byte-drop b a i, rest)

-- w bytes hold a number below 256 ^ w
pub field_lt : (w : ℕ) (b : List ℕ) (i : ℕ) → ((k : ℕ) → byte b k < 256) → field w b i < 256 ^ w
field_lt zero b i bytes = omega arith
field_lt (suc w) b i bytes = rw pow-succ' (omega (arith, bytes i, field_lt w b (i + 1) bytes))

-- one byte that is a byte is stored as it is
pub put_one : (b : List ℕ) (i n : ℕ) → n < 256 → put 1 b i n ≡ set b i n
unfolding put bytes_of
put_one b i n h = let e : n % 256 ≡ n = omega arith in rw e

-- past the end nothing is put
pub put-out : (w : ℕ) (b : List ℕ) (i n : ℕ) → length b ≤ i → put w b i n ≡ b
put-out zero b i n h = put-none b i n
put-out (suc w) b i n h = rw (put-suc w b i n, set_out b i (n % 256) h) (put-out w b (i + 1) (n / 256) (omega arith))

-- lists with the same bytes there have the same field there
field-same : (w : ℕ) (a b : List ℕ) (i : ℕ) → ((k : ℕ) → i ≤ k → k < i + w → byte a k ≡ byte b k) → field w a i ≡ field w b i
field-same zero a b i same = refl
field-same (suc w) a b i same =
    let rest = field-same w a b (i + 1) (λ k l h. same k (omega arith) (omega arith)) in
    omega (arith, same i (omega arith) (omega arith), rest)

-- a field of other bytes stays
pub field-put-other : (j w : ℕ) (b : List ℕ) (i n k : ℕ) → (k + j ≤ i) ⊎ (i + w ≤ k) → field j (put w b i n) k ≡ field j b k
field-put-other j w b i n k away =
    field-same j (put w b i n) b k
    (λ m l h. put_other w b i n m (elim away [ inl a ↦ omega arith | inr a ↦ omega arith ]))

-- j + k bytes are put as j, and then k after them
pub put-split : (j k : ℕ) (b : List ℕ) (i n : ℕ) → put (j + k) b i n ≡ put k (put j b i (n % 256 ^ j)) (i + j) (n / 256 ^ j)
put-split zero k b i n =
    let e : n / 256 ^ 0 ≡ n = omega arith in
    rw (zero-add k, add-zero i, e, put-none b i (n % 256 ^ 0))
put-split (suc j) k b i n =
    let p : i + 1 + j ≡ i + suc j = omega arith in
    let q : n / 256 / 256 ^ j ≡ n / 256 ^ suc j = div-div-eq-div-mul n 256 (256 ^ j) ∙ ap (λ (m : ℕ). n / m) (sym (pow-succ' 256 j)) in
    let low : n % 256 ^ suc j % 256 ≡ n % 256 = omega (arith, lowest j n) in
    let up : n % 256 ^ suc j / 256 ≡ n / 256 % 256 ^ j = omega (arith, lowest j n) in
    rw (suc-add, put-suc (j + k) b i n, put-split j k (set b i (n % 256)) (i + 1) (n / 256), p, q, put-suc j b i (n % 256 ^ suc j), low, up)

-- so a put that runs past the end is that of the bytes before the end
pub put-short : (j k : ℕ) (b : List ℕ) (i n : ℕ) → length b ≤ i + j → put (j + k) b i n ≡ put j b i (n % 256 ^ j)
put-short j k b i n h =
    put-split j k b i n ∙ put-out k (put j b i (n % 256 ^ j)) (i + j) (n / 256 ^ j) (rw length-put h)

-- the bytes that the machine makes of a number are the rules', from the lowest and from any on
low-bytes-from : (i w n : ℕ) → bytes_low_first i w n ≡ bytes_of w (n / 256 ^ i)
unfolding bytes_of
low-bytes-from i zero n = refl
low-bytes-from i (suc w) n =
    let q : n / 256 ^ i / 256 ≡ n / 256 ^ suc i = div-div-eq-div-mul n (256 ^ i) 256 ∙ ap (λ (m : ℕ). n / m) (sym (pow-suc 256 i)) in
    rw (here i, low-bytes-from (suc i) w n, q)
  where
    here : (i : ℕ) → byte_at i n ≡ n / 256 ^ i % 256
    here zero = omega arith
    here (suc i) = refl

pub low-bytes : (w n : ℕ) → bytes_low_first 0 w n ≡ bytes_of w n
low-bytes w n = let e : n / 256 ^ 0 ≡ n = omega arith in low-bytes-from 0 w n ∙ ap (bytes_of w) e

-- and a part that they are copied into is as if they were put there
pub put-part : (w : ℕ) (b : List ℕ) (i n : ℕ) (part : List ℕ) → i + w ≤ length b → part ≡ bytes_low_first 0 w n → put_mid i (i + w - i) b part ≡ put w b i n
unfolding put
put-part w b i n part h e =
    let k = length-bytes w n in
    rw (e, low-bytes w n, Post-is i (i + w) b (omega arith))
    (sym (rw k at (sets-eq (bytes_of w n) b i (omega arith)) ∙ append_assoc (take i b) (bytes_of w n) (drop (i + w) b)))
