-- A number put into a list as bytes, their width a parameter: as many bytes as that, the length of the list stays, and so does
-- every other byte of it. Assumes nothing.
use mathlib.Core.Path.{◌≡◌, refl, ap, ◌∙◌}
use Prim.Native.Nat.{ℕ, zero, suc, ◌+◌, ◌/◌, ◌%◌, ◌≤◌, ◌<◌}
use native.Mathlib.Omega.{arith}
use lib.ListN.{length, set}
use lib.Seq.{get_or-set_other, length-sets}
use Rattle.rules.specs.Bytes.{Bytes, byte, bytes_of, put}

pub length-bytes : (w n : ℕ) → length (bytes_of w n) ≡ w
unfolding bytes_of
length-bytes zero n = refl
length-bytes (suc w) n = ap suc (length-bytes w (n / 256))

pub length-put : (w : ℕ) (b : Bytes) (i n : ℕ) → length (put w b i n) ≡ length b
unfolding put
length-put w b i n = length-sets b i (bytes_of w n)

pub put_other : (w : ℕ) (b : Bytes) (i n k : ℕ) → ((i ≤ k) × (k < i + w) → ⊥) → byte (put w b i n) k ≡ byte b k
unfolding put bytes_of
put_other zero b i n k h = refl
put_other (suc w) b i n k h =
    put_other w (set b i (n % 256)) (suc i) (n / 256) k (λ g. h (omega arith))
    ∙ get_or-set_other b i k (n % 256) 0 (λ e. h (omega arith))
