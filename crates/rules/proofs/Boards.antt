-- A lift's part of a board, read and written: the part written is the part read there, the board keeps its length, and no byte
-- outside the part changes, so no other part either. Assumes nothing.
use mathlib.Core.Path.{◌≡◌}
use mathlib.Core.Logic.{◌⊎◌, inl, inr}
use mathlib.Core.List.{◌++◌, append_assoc}
use Prim.Native.Nat.{ℕ, ◌+◌, ◌-◌, ◌*◌, ◌≤◌, ◌<◌, min}
use native.Mathlib.Decide.{dec_lt}
use native.Mathlib.Omega.{arith}
use lib.Dec.{leb}
use lib.ListN.{length, take, drop, length-append, length-take, length-drop, get_or-append}
use lib.Seq.{length-take-le, take_at, drop_at, get_or-take, get_or-drop, ext_get_or}
use borrow.Author.Tests.{leb-true}
use Rattle.rules.specs.Bytes.{Bytes, byte}
use Rattle.rules.specs.Calls.{Board, part, with_part, part_refusal}
use Rattle.rules.proofs.Laws.{and_right, unless-zero}

-- lift k's part is on the board
abbrev pub Has : Board → ℕ → Type 0
Has board k = 202 * k + 202 ≤ length board

pub part-has : (board : Board) (k : ℕ) → part_refusal board k ≡ 0 → Has board k
unfolding part_refusal
part-has board k e = let (t, r) = unless-zero 11 _ _ e in leb-true _ _ (and_right (leb k 63) _ t)

part-size : (board : Bytes) (k : ℕ) → length (part board k) ≡ min 202 (length board - 202 * k)
unfolding part
part-size board k = rw (length-take, length-drop)

part-byte : (board : Bytes) (k i : ℕ) → i < 202 → byte (part board k) i ≡ byte board (202 * k + i)
unfolding part
part-byte board k i h = rw (get_or-take, get_or-drop)

module _ (board im : Bytes) (k : ℕ) (room : Has board k) (size : length im ≡ 202) where
  before : length (take (202 * k) board) ≡ 202 * k
  before = length-take-le (202 * k) board (omega arith)

  up_to : length (take (202 * k) board ++ im) ≡ 202 * k + 202
  up_to = rw (length-append, before, size)

  pub with_part-length : length (with_part board k im) ≡ length board
  unfolding with_part
  with_part-length = rw (length-append, up_to, length-drop) (omega arith)

  pub part_same : part (with_part board k im) k ≡ im
  unfolding part with_part
  part_same = rw (append_assoc, drop_at _ _ _ before, take_at _ _ _ size)

  after : drop (202 * k + 202) (with_part board k im) ≡ drop (202 * k + 202) board
  unfolding with_part
  after = rw (drop_at _ _ _ up_to)

  pub byte-other : (i : ℕ) → (i < 202 * k) ⊎ (202 * k + 202 ≤ i) → byte (with_part board k im) i ≡ byte board i
  unfolding with_part
  byte-other i (inl h) =
      let g : i < length (take (202 * k) board) = omega (arith, before) in
      rw (append_assoc, get_or-append, get_or-take)
  byte-other i (inr h) =
      let e : i ≡ 202 * k + 202 + (i - (202 * k + 202)) = omega arith in
      rw (e, ← get_or-drop (202 * k + 202) (with_part board k im), after, get_or-drop)

  pub part-other : (j : ℕ) → (j ≡ k → ⊥) → part (with_part board k im) j ≡ part board j
  part-other j apart =
      ext_get_or 0 _ _ (simp (part-size, with_part-length))
      (λ i h. same i (omega (arith, part-size (with_part board k im) j)) (dec_lt j k))
    where
      same : (i : ℕ) → i < 202 → Dec (j < k) → byte (part (with_part board k im) j) i ≡ byte (part board j) i
      same i h (yes q) = simp (part-byte, byte-other (202 * j + i) (inl (omega arith)))
      same i h (no q) = simp (part-byte, byte-other (202 * j + i) (inr (omega arith)))
