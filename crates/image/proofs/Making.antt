-- Making the fresh image from the front: zeros, the mark, and then one variable after the other in the place of the zeros that
-- stand next. Assumes nothing.
use mathlib.Core.Path.{◌≡◌, ◌∙◌}
use mathlib.Core.List.{◌++◌, append_assoc}
use Prim.Native.Nat.{ℕ, zero, suc, ◌+◌, ◌-◌, ◌*◌, ◌≤◌, ◌<◌}
use native.Mathlib.Nat.{sub-zero, zero-sub, suc-sub-suc}
use native.Mathlib.Numerals.{add-one}
use native.Mathlib.Omega.{arith}
use lib.ListN.{length, drop, replicate, length-append, length-replicate}
use lib.Seq.{sets-eq, take-append_seam, drop-append-add}
use Rattle.rules.specs.Bytes.{Bytes, ascii, bytes_of, put}
use Rattle.rules.specs.Chart.{Chart, most_variables, variables, initial_value}
use Rattle.rules.specs.Image.{Image, image_size, initial_bytes, fresh_image}
use Rattle.rules.proofs.Puts.{length-bytes}
use Rattle.rules.proofs.Freshness.{initial-length, made}

abbrev pub zeros : ℕ → Bytes
zeros n = replicate n 0

zeros-past : (w m : ℕ) → drop w (zeros m) ≡ zeros (m - w)
zeros-past zero m = rw (sub-zero m)
zeros-past (suc w) zero = rw (zero-sub (suc w))
zeros-past (suc w) (suc m) = rw (suc-sub-suc m w) (zeros-past w m)

-- w bytes put in the place of the first zeros
put_next : (w : ℕ) (front : Bytes) (m i n : ℕ) → length front ≡ i → w ≤ m
    → put w (front ++ zeros m) i n ≡ front ++ bytes_of w n ++ zeros (m - w)
unfolding put
put_next w front m i n e h =
    rw
    (← e, sets-eq (bytes_of w n) (front ++ zeros m) (length front) fits, take-append_seam front (zeros m), length-bytes w n, drop-append-add front (zeros m) w, zeros-past w m)
  where
    fits : length front + length (bytes_of w n) ≤ length (front ++ zeros m)
    fits = rw (length-bytes w n, length-append front (zeros m), length-replicate {A = ℕ} m 0) (omega arith)

-- what stands before the variables
head : Bytes
head = ascii "IM" ++ zeros 72

module _ (c : Chart) where
  length-put-before : (v : ℕ) → length (head ++ initial_bytes c v) ≡ 74 + 4 * v
  unfolding head ascii
  length-put-before v = omega (arith, initial-length c v)

  initial-more : (v : ℕ) → initial_bytes c (v + 1) ≡ initial_bytes c v ++ bytes_of 4 (initial_value c v)
  unfolding initial_bytes
  initial-more v = rw (add-one v)

  put-more : (v : ℕ) → v < most_variables → put 4 (made c v) (74 + 4 * v) (initial_value c v) ≡ made c (v + 1)
  unfolding made head
  put-more v h =
      let left : 4 * (most_variables - v) - 4 ≡ 4 * (most_variables - (v + 1)) = omega arith in
      put_next 4 (head ++ initial_bytes c v) (4 * (most_variables - v)) (74 + 4 * v) (initial_value c v) (length-put-before v) (omega arith)
      ∙ rw (left, initial-more v, append_assoc head (initial_bytes c v) (bytes_of 4 (initial_value c v)))

-- the walk over the variables: cleared and marked, one more put, all of them put
module _ (c : Chart) {image : Image} where
  pub made_none : {cleared : Image} {n : ℕ} → cleared ≡ zeros n → n ≡ image_size → image ≡ put 1 (put 1 cleared 0 73) 1 77
      → image ≡ made c 0
  unfolding made head ascii initial_bytes put bytes_of
  made_none e size marked = marked ∙ rw (e, size)

  module _ (v : ℕ) (was : image ≡ made c v) where
    pub made_more : v < most_variables → {n : ℕ} → n ≡ initial_value c v → {next : Image} → next ≡ put 4 image (74 + 4 * v) n
        → next ≡ made c (v + 1)
    made_more l value more = more ∙ rw (was, value) (put-more c v l)

    pub made_all : v ≡ variables c → image ≡ fresh_image c
    unfolding made head fresh_image
    made_all all = was ∙ rw all
