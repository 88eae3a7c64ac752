-- The fresh image of a chart: 202 bytes, accepted and not started. That its first 74 bytes are the mark and zeros is computed;
-- past the initial values there are zeros again. Assumes nothing.
use mathlib.Core.Path.{◌≡◌, refl}
use mathlib.Core.Bool.{true}
use mathlib.Core.List.{[], ◌∷◌, ◌++◌}
use Prim.Native.Nat.{ℕ, zero, suc, ◌+◌, ◌-◌, ◌*◌, ◌/◌, ◌≤◌, ◌<◌}
use native.Mathlib.Nat.{zero-div}
use native.Mathlib.Omega.{arith}
use lib.ListN.{length, replicate, length-append, length-replicate}
use borrow.Author.Tests.{eqb-true}
use Rattle.rules.specs.Bytes.{Bytes, ascii, byte, field, bytes_of}
use Rattle.rules.specs.Lists.{up_from, range, below, every, all}
use Rattle.rules.specs.Chart.{Chart, most_variables, states, variables}
use Rattle.rules.specs.Accept.{marked, zero_at}
use Rattle.rules.specs.Image.{Image, image_size, not_started, rest_zero, history_sound, accepted, initial_bytes, fresh_image}
use Rattle.rules.proofs.Laws.{and_both}
use Rattle.rules.proofs.Members.{every-range, range-every, below-every}
use Rattle.rules.proofs.Taken.{Tree}

-- zeros stand after a list, and past the end
zero-after : (b : Bytes) (n i : ℕ) → length b ≤ i → byte (b ++ replicate n 0) i ≡ 0
zero-after [] zero i h = refl
zero-after [] (suc n) zero h = refl
zero-after [] (suc n) (suc i) h = zero-after [] n i (omega arith)
zero-after (x ∷ b) n zero h = absurd (omega arith)
zero-after (x ∷ b) n (suc i) h = zero-after b n i (omega arith)

pub initial-length : (c : Chart) (n : ℕ) → length (initial_bytes c n) ≡ 4 * n
unfolding initial_bytes bytes_of
initial-length c zero = refl
initial-length c (suc n) = rw (length-append, initial-length c n) (omega arith)

-- the image with the first n initial values put; with all of them it is the fresh one
unfoldable pub made : Chart → ℕ → Image
made c n = ascii "IM" ++ replicate 72 0 ++ initial_bytes c n ++ replicate (4 * (most_variables - n)) 0

pub made-size : (c : Chart) (n : ℕ) → n ≤ most_variables → length (made c n) ≡ image_size
unfolding made ascii
made-size c n h = simp (length-append, length-replicate, initial-length) (omega arith)

module _ (c : Chart) (t : Tree c) where
  pub fresh-size : length (fresh_image c) ≡ 202
  unfolding fresh_image made
  fresh-size = made-size c (variables c) t.most_variables

  pub fresh-not-started : not_started (fresh_image c) ≡ true
  unfolding not_started fresh_image ascii every range up_from zero_at
  fresh-not-started = refl

  fresh-marked : marked (fresh_image c) "IM" 0 ≡ true
  unfolding marked fresh_image ascii
  fresh-marked = refl

  first-zero : (i : ℕ) → (2 ≤ i) × (i < 74) → byte (fresh_image c) i ≡ 0
  unfolding not_started zero_at
  first-zero i (l, h) = eqb-true _ _ (every-range _ 2 74 fresh-not-started i l h)

  last-zero : (i : ℕ) → 74 + 4 * variables c ≤ i → byte (fresh_image c) i ≡ 0
  unfolding fresh_image ascii
  last-zero i h =
      zero-after (ascii "IM" ++ replicate 72 0 ++ initial_bytes c (variables c)) (4 * (32 - variables c)) i
      (omega (arith, initial-length c (variables c)))

  last-field : (w i : ℕ) → 74 + 4 * variables c ≤ i → field w (fresh_image c) i ≡ 0
  last-field zero i h = refl
  last-field (suc w) i h = rw (last-zero i h, last-field w (i + 1) (omega arith))

  fresh-rest : rest_zero (fresh_image c) c ≡ true
  unfolding rest_zero
  fresh-rest =
      and_both (every _ (range (states c) 64)) _
      (range-every _ (states c) 64
      (λ s l h. rw (first-zero (2 + s / 8) (omega arith), first-zero (10 + s) (omega arith), zero-div)))
      (range-every _ (variables c) 32 (λ v l h. rw (last-field 4 (74 + 4 * v) (omega arith))))

  fresh-history : every (history_sound (fresh_image c) c) (below (states c)) ≡ true
  unfolding history_sound
  fresh-history = below-every _ (states c) (λ s h. rw (first-zero (10 + s) (omega arith)))

  pub fresh-accepted : accepted (fresh_image c) c ≡ true
  unfolding accepted all every
  fresh-accepted = rw (fresh-size, fresh-marked, fresh-rest, fresh-history, fresh-not-started)
