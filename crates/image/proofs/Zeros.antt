-- A test of many numbers as a test of bytes: fields, and whole bytes of bits, are zero exactly where their bytes are, and
-- bytes past the end are zero. Assumes nothing.
use mathlib.Core.Path.{◌≡◌, refl, sym, ◌∙◌}
use mathlib.Core.Bool.{Bool, true, false, ◌&&◌, not, and-true, and_assoc}
use mathlib.Core.List.{List, [], ◌∷◌, ◌++◌}
use Prim.Native.Nat.{ℕ, zero, suc, ◌+◌, ◌-◌, ◌*◌, ◌/◌, ◌%◌, ◌^◌, ◌≤◌, ◌<◌, min}
use native.Mathlib.Nat.{zero-add, suc-add, add-zero, mul-zero, mul-suc, add_comm, div-one, div-eq_of_lt, div-div-eq-div-mul, pow-suc}
use native.Mathlib.Numerals.{add-one}
use native.Mathlib.Omega.{arith}
use lib.Dec.{eqb, leb}
use lib.ListN.{length, take, drop, get_or-eq_default}
use lib.Seq.{drop-cons}
use borrow.Author.Tests.{eqb-true, eqb-false, eq-eqb, ne_eqb, leb-true, leb-false}
use Rattle.rules.specs.Bytes.{Bytes, byte, field}
use Rattle.rules.specs.Lists.{up_from, range, every}
use Rattle.rules.specs.Accept.{zero_at}
use Rattle.rules.specs.Chart.{most_states, most_variables}
use Rattle.rules.specs.Image.{Image, is_active, recorded}
use Rattle.chart.proofs.Ranges.{every-end}

-- a range in two parts
up-add : (a m n : ℕ) → up_from a (m + n) ≡ up_from a m ++ up_from (a + m) n
unfolding up_from
up-add a zero n = rw (zero-add n, add-zero a)
up-add a (suc m) n =
    let e : a + 1 + m ≡ a + suc m = omega arith in
    rw (suc-add m n, up-add (a + 1) m n, e)

module _ {A : Type 0} (f : A → Bool) where
  every_append : (xs ys : List A) → every f (xs ++ ys) ≡ every f xs && every f ys
  unfolding every
  every_append [] ys = refl
  every_append (x ∷ xs) ys = rw (every_append xs ys) (sym (and_assoc (f x) (every f xs) (every f ys)))

-- two tests of each
mixed : (a b c d : Bool) → (a && b) && (c && d) ≡ (a && c) && (b && d)
mixed true true c d = refl
mixed true false true d = refl
mixed true false false d = refl
mixed false b c d = refl

every-both : (f g : ℕ → Bool) (xs : List ℕ) → every (λ x. f x && g x) xs ≡ every f xs && every g xs
unfolding every
every-both f g [] = refl
every-both f g (x ∷ xs) = rw (every-both f g xs) (mixed (f x) (g x) (every f xs) (every g xs))

-- numbers k further on
every-shift : (f : ℕ → Bool) (k a n : ℕ) → every (λ s. f (k + s)) (up_from a n) ≡ every f (up_from (k + a) n)
unfolding up_from every
every-shift f k a zero = refl
every-shift f k a (suc n) =
    let e : k + (a + 1) ≡ k + a + 1 = omega arith in
    rw (every-shift f k (a + 1) n, e)

-- groups of w numbers, where g tests what f does over a group
module _ (w : ℕ) (f g : ℕ → Bool) (start : ℕ → ℕ) (next : (p : ℕ) → start p + w ≡ start (p + 1))
    (group : (p : ℕ) → every f (up_from (start p) w) ≡ g p) where
  every-group : (a n : ℕ) → every f (up_from (start a) (w * n)) ≡ every g (up_from a n)
  unfolding up_from every
  every-group a zero = rw (mul-zero w)
  every-group a (suc n) =
      rw (
        mul-suc w n,
        add_comm (w * n) w,
        up-add (start a) w (w * n),
        every_append f (up_from (start a) w) (up_from (start a + w) (w * n)),
        group a,
        next a,
        every-group (a + 1) n,
      )

-- the bytes of a part, one after another
abbrev pub is_zero : ℕ → Bool
is_zero b = eqb b 0

pub one-more : (bytes : Bytes) (b : ℕ) {zero : Bool} → zero ≡ every is_zero bytes → zero && is_zero b ≡ every is_zero (bytes ++ (b ∷ []))
unfolding every
one-more bytes b e = rw (every_append is_zero bytes (b ∷ []), e, and-true (is_zero b))

-- the bytes of an image from a place up to another
module _ (im : Image) where
  past : (a n : ℕ) → length im ≤ a → every (zero_at im) (up_from a n) ≡ true
  unfolding up_from every zero_at
  past a zero h = refl
  past a (suc n) h = rw (get_or-eq_default im 0 h) (past (a + 1) n (omega arith))

  past_end : (a e : ℕ) → length im ≤ a → every (zero_at im) (range a e) ≡ true
  unfolding range
  past_end a e h = past a (e - a) h

  pub beyond : (a to : ℕ) → min to (length im) ≤ a → every (zero_at im) (range a to) ≡ true
  beyond a to h = by (leb to a) refl
    where
      by : (t : Bool) → leb to a ≡ t → every (zero_at im) (range a to) ≡ true
      by true p = every-end (zero_at im) a to (leb-true to a p)
      by false p = past_end a to (omega (arith, leb-false to a p))

  part-tested : (a n : ℕ) → a + n ≤ length im → every is_zero (take n (drop a im)) ≡ every (zero_at im) (up_from a n)
  unfolding up_from every zero_at
  part-tested a zero h = refl
  part-tested a (suc n) h =
      rw (drop-cons im a 0 (omega arith), ← add-one a, part-tested (a + 1) n (omega arith))

  pub up-to-end : (a e to : ℕ) {zero : Bool} → e ≡ min to (length im) → a < e → zero ≡ every is_zero (take (e - a) (drop a im))
      → zero ≡ every (zero_at im) (range a to)
  unfolding range
  up-to-end a e to end h z =
      let n : to - a ≡ (e - a) + (to - e) = omega arith in
      let m : a + (e - a) ≡ e = omega arith in
      rw (
        z,
        part-tested a (e - a) (omega arith),
        n,
        up-add a (e - a) (to - e),
        m,
        every_append (zero_at im) (up_from a (e - a)) (up_from e (to - e)),
        beyond e to (omega arith),
      )
      (sym (and-true (every (zero_at im) (up_from a (e - a)))))

-- a number whose lowest bit is off, and the rest of it zero
low_bit : (x : ℕ) (t u : Bool) → eqb (x % 2) 1 ≡ t → eqb (x / 2) 0 ≡ u → not (eqb (x % 2) 1) && eqb (x / 2) 0 ≡ eqb x 0
low_bit x true u p q = let b = eqb-true (x % 2) 1 p in rw p (sym (ne_eqb x 0 (λ z. omega arith)))
low_bit x false true p q =
    let b = eqb-false (x % 2) 1 p in
    let r = eqb-true (x / 2) 0 q in
    rw (p, q) (sym (eq-eqb x 0 (omega arith)))
low_bit x false false p q = let r = eqb-false (x / 2) 0 q in rw (p, q) (sym (ne_eqb x 0 (λ z. r (omega arith))))

-- the active bits: those of one byte from bit k on, and those of whole bytes
module _ (im : Image) (bytes : (i : ℕ) → byte im i < 256) where
  abbrev is_off : ℕ → Bool
  is_off s = not (is_active im s)

  rest-of-byte : (p k n : ℕ) → k + n ≡ 8 → every is_off (up_from (8 * p + k) n) ≡ eqb (byte im (2 + p) / 2 ^ k) 0
  unfolding up_from every
  rest-of-byte p k zero e =
      let end : k ≡ 8 = omega arith in
      rw end (sym (eq-eqb (byte im (2 + p) / 2 ^ 8) 0 (div-eq_of_lt (bytes (2 + p)))))
  rest-of-byte p k (suc n) e =
      let b = byte im (2 + p) in
      let at : (8 * p + k) / 8 ≡ p = omega arith in
      let here : (8 * p + k) % 8 ≡ k = omega arith in
      let on : 8 * p + k + 1 ≡ 8 * p + (k + 1) = omega arith in
      let half : b / 2 ^ (k + 1) ≡ b / 2 ^ k / 2 = halved b k in
      rw (at, here, on, rest-of-byte p (k + 1) n (omega arith), half)
      (low_bit (b / 2 ^ k) (eqb (b / 2 ^ k % 2) 1) (eqb (b / 2 ^ k / 2) 0) refl refl)
    where
      halved : (b k : ℕ) → b / 2 ^ (k + 1) ≡ b / 2 ^ k / 2
      halved b k = rw (add-one k, pow-suc 2 k, div-div-eq-div-mul b (2 ^ k) 2)

  whole-byte : (p : ℕ) → every is_off (up_from (8 * p) 8) ≡ zero_at im (2 + p)
  unfolding zero_at
  whole-byte p =
      let b = byte im (2 + p) in
      let same : b / 2 ^ 0 ≡ b = div-one b in
      rw (add-zero (8 * p), same) at (rest-of-byte p 0 8 refl)

  whole-bytes : (p n : ℕ) → every is_off (up_from (8 * p) (8 * n)) ≡ every (zero_at im) (up_from (2 + p) n)
  whole-bytes p n =
      every-group 8 is_off (λ q. zero_at im (2 + q)) (λ q. 8 * q) (λ q. omega arith) whole-byte p n ∙ every-shift (zero_at im) 2 p n

  pub from-bit : (s : ℕ) {b : ℕ} {zero : Bool} → s < most_states → b ≡ byte im (2 + s / 8)
      → zero ≡ every (zero_at im) (range (2 + s / 8 + 1) 10)
      → eqb (b / 2 ^ (s % 8)) 0 && zero ≡ every is_off (range s most_states)
  unfolding range
  from-bit s h e z =
      let p = s / 8 in
      let k = s % 8 in
      let own : 8 * p + k ≡ s = omega arith in
      let states : most_states - s ≡ (8 - k) + 8 * (7 - p) = omega arith in
      let next : s + (8 - k) ≡ 8 * (p + 1) = omega arith in
      let places : 10 - (2 + p + 1) ≡ 7 - p = omega arith in
      let place : 2 + p + 1 ≡ 2 + (p + 1) = omega arith in
      let first = rw own at (rest-of-byte p k (8 - k) (omega arith)) in
      rw (
        e,
        z,
        places,
        place,
        states,
        up-add s (8 - k) (8 * (7 - p)),
        next,
        every_append is_off (up_from s (8 - k)) (up_from (8 * (p + 1)) (8 * (7 - p))),
        first,
        whole-bytes (p + 1) (7 - p),
      )

-- a field's bytes
no_bytes : (b r : ℕ) (t u : Bool) → eqb b 0 ≡ t → eqb r 0 ≡ u → eqb b 0 && eqb r 0 ≡ eqb (b + 256 * r) 0
no_bytes b r false u p q = let n = eqb-false b 0 p in rw p (sym (ne_eqb (b + 256 * r) 0 (λ z. n (omega arith))))
no_bytes b r true false p q = let n = eqb-false r 0 q in rw (p, q) (sym (ne_eqb (b + 256 * r) 0 (λ z. n (omega arith))))
no_bytes b r true true p q =
    let d = eqb-true b 0 p in
    let n = eqb-true r 0 q in
    rw (p, q) (sym (eq-eqb (b + 256 * r) 0 (omega arith)))

field-zero : (im : Image) (w a : ℕ) → every (zero_at im) (up_from a w) ≡ eqb (field w im a) 0
unfolding up_from every zero_at
field-zero im zero a = refl
field-zero im (suc w) a =
    let b = byte im a in
    let r = field w im (a + 1) in
    rw (field-zero im w (a + 1)) (no_bytes b r (eqb b 0) (eqb r 0) refl refl)

pub from-variable : (im : Image) (v : ℕ) {zero : Bool} → zero ≡ every (zero_at im) (range (74 + 4 * v) 202)
    → zero ≡ every (λ u. eqb (field 4 im (74 + 4 * u)) 0) (range v most_variables)
unfolding range
from-variable im v z =
    let n : 202 - (74 + 4 * v) ≡ 4 * (most_variables - v) = omega arith in
    rw (z, n)
    (every-group 4 (zero_at im) (λ u. eqb (field 4 im (74 + 4 * u)) 0) (λ u. 74 + 4 * u) (λ u. omega arith)
    (λ u. field-zero im 4 (74 + 4 * u)) v (most_variables - v))

pub both_zero : (im : Image) (s : ℕ) {off zero : Bool} → off ≡ every (λ t. not (is_active im t)) (range s most_states)
    → zero ≡ every (zero_at im) (range (10 + s) 74)
    → off && zero ≡ every (λ t. not (is_active im t) && eqb (recorded im t) 0) (range s most_states)
unfolding range zero_at
both_zero im s o z =
    let n : 74 - (10 + s) ≡ most_states - s = omega arith in
    let xs = up_from s (most_states - s) in
    rw (
      o,
      z,
      n,
      every-both (λ t. not (is_active im t)) (λ t. eqb (recorded im t) 0) xs,
      ← every-shift (zero_at im) 10 s (most_states - s),
    )
