-- A source's two bytes as one number: it is another's exactly where both bytes are. Assumes nothing.
use mathlib.Core.Path.{◌≡◌, refl}
use mathlib.Core.Bool.{Bool, true, false, ◌&&◌}
use Prim.Native.Nat.{ℕ, ◌+◌, ◌*◌, ◌/◌, ◌%◌, ◌<◌}
use native.Mathlib.Omega.{arith}
use lib.Dec.{eqb}
use mir.Syntax.{w8}
use mir.Val.{Fits}
use borrow.Author.Tests.{eqb-true, eqb-false, eq-eqb, ne_eqb}
use Rattle.rules.specs.Bytes.{Bytes, byte, field}
use Rattle.rules.specs.declared.headers.Header.{Header}
use Rattle.chart.specs.Places.{segment_place}
use Rattle.chart.specs.Read.{starts_in}

module _ (x y w : ℕ) (small : x < 256) where
  by-parts : (t u : Bool) → eqb (x + 256 * y) w ≡ t → eqb x (w % 256) ≡ u → t ≡ u && eqb y (w / 256)
  by-parts true true p q = let e = eqb-true (x + 256 * y) w p in rw (eq-eqb y (w / 256) (omega arith))
  by-parts true false p q =
      let e = eqb-true (x + 256 * y) w p in
      let n = eqb-false x (w % 256) q in
      absurd (n (omega arith))
  by-parts false true p q =
      let n = eqb-false (x + 256 * y) w p in
      let e = eqb-true x (w % 256) q in
      rw (ne_eqb y (w / 256) (λ d. n (omega arith)))
  by-parts false false p q = refl

  both_bytes : eqb (x + 256 * y) w ≡ eqb x (w % 256) && eqb y (w / 256)
  both_bytes = rw (by-parts (eqb (x + 256 * y) w) (eqb x (w % 256)) refl refl)

-- what is read at the place of a segment's source bytes, beside a source
module _ (c : Bytes) (h : Header) (t w : ℕ) (bytes : (k : ℕ) → Fits w8 (byte c k)) {place : ℕ} (at : place ≡ segment_place h t + 2) where
  pub same_source : eqb (field 2 c place) w ≡ starts_in c h (w % 256) (w / 256) t
  same_source =
      let k = segment_place h t + 2 in
      let next : k + 1 ≡ segment_place h t + 3 = omega arith in
      let two : field 2 c place ≡ byte c k + 256 * byte c (segment_place h t + 3) = rw (at, next) (omega arith) in
      rw two (both_bytes (byte c k) (byte c (segment_place h t + 3)) w (bytes k).fits)
