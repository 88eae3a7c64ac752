-- Texts; fields of w bytes, little-endian, the width a parameter; signed values; bits. Assumes nothing.
use Rattle.std.specs.Prelude.{Bool, true, false, List, [], ◌∷◌, ℕ, zero, suc, ◌+◌, ◌-◌, ◌*◌, ◌/◌, ◌%◌, ◌^◌, ltb, eqb, get_or, ℤ, pos, negsuc}
use Prim.Native.Char.{code}
use Prim.Native.String.{String, [] as no_text, ◌∷◌ as ◌in-front-of◌}
use Rattle.std.proofs.lemmas.List.Edits.{sets}
use Rattle.std.proofs.Math.IntN.{sub_ℕ}
use Rattle.std.specs.Int.Signed.{mag}
use Rattle.rules.specs.Lists.{when◌then◌else◌}

abbrev pub Bytes : Type 0
Bytes = List ℕ

unfoldable pub ascii : String → Bytes
ascii no_text = []
ascii (◌in-front-of◌ c s) = code c ∷ ascii s

-- the byte at place i; past the end 0
abbrev pub byte : Bytes → ℕ → ℕ
byte b i = get_or b i 0

-- the number of w bytes at place i
abbrev pub field : ℕ → Bytes → ℕ → ℕ
field zero b i = 0
field (suc w) b i = byte b i + 256 * field w b (i + 1)

-- n as w bytes
unfoldable pub bytes_of : ℕ → ℕ → Bytes
bytes_of zero n = []
bytes_of (suc w) n = n % 256 ∷ bytes_of w (n / 256)

-- b with the w bytes at place i put to n
unfoldable pub put : ℕ → Bytes → ℕ → ℕ → Bytes
put w b i n = sets b i (bytes_of w n)

-- the signed value of a number of w bytes, and back
unfoldable pub signed : ℕ → ℕ → ℤ
signed w n = when ltb n (2 ^ (8 * w - 1)) then pos n else sub_ℕ n (2 ^ (8 * w))

unfoldable pub unsigned : ℕ → ℤ → ℕ
unsigned w (pos n) = n
unsigned w (negsuc n) = 2 ^ (8 * w) - suc n

-- bit k of a byte, and the byte with that bit on or off
abbrev pub bit : ℕ → ℕ → Bool
bit b k = eqb (b / 2 ^ k % 2) 1

abbrev pub bit_on : ℕ → ℕ → ℕ
bit_on b k = when bit b k then b else b + 2 ^ k

abbrev pub bit_off : ℕ → ℕ → ℕ
bit_off b k = when bit b k then b - 2 ^ k else b

-- a signed 32-bit value; two that are equal; 0; 1 if so, else 0
unfoldable pub fits : ℤ → Bool
fits z = ltb (mag z) (2 ^ 31)

unfoldable pub equals : ℤ → ℤ → Bool
equals (pos a) (pos b) = eqb a b
equals (pos a) (negsuc b) = false
equals (negsuc a) (pos b) = false
equals (negsuc a) (negsuc b) = eqb a b

unfoldable pub is_zero : ℤ → Bool
is_zero z = equals z (pos 0)

unfoldable pub truth : Bool → ℤ
truth true = pos 1
truth false = pos 0
