-- A send in the bytes: its op's number, and the one byte of its second operand that names a state. Assumes nothing.
use mathlib.Core.Path.{◌≡◌, refl, ◌∙◌}
use mathlib.Core.Bool.{Bool, true, false}
use mathlib.Core.List.{List, [], ◌∷◌, ◌++◌, map}
use Prim.Native.Nat.{ℕ, zero, suc, ◌%◌, ◌<◌}
use native.Mathlib.Omega.{arith}
use lib.Dec.{eqb, eqb-zero-suc, eqb-suc-zero, eqb-suc-suc}
use lib.ListN.{get_or, replicate}
use Rattle.rules.specs.Bytes.{byte, field, signed, unsigned}
use Rattle.rules.specs.Chart.{op_of, push, load, store, add, subtract, multiply, quotient, remainder, less, equal, not, raise, send, unknown}
use Rattle.rules.specs.Accept.{op_rule, is_send}
use Rattle.fields.proofs.Laws.{field_lt}
use Rattle.fields.proofs.Signs.{unsigned_signed}

-- a test of what a table has at a number, as a table of tests
tested_at : {A : Type 0} (f : A → Bool) (xs : List A) (n : ℕ) (d : A) → get_or (map f xs) n (f d) ≡ f (get_or xs n d)
tested_at f [] n d = refl
tested_at f (x ∷ xs) zero d = refl
tested_at f (x ∷ xs) (suc n) d = tested_at f xs n d

only_at : (k n : ℕ) → eqb n k ≡ get_or (replicate k false ++ (true ∷ [])) n false
only_at zero zero = refl
only_at zero (suc n) = eqb-suc-zero n
only_at (suc k) zero = eqb-zero-suc k
only_at (suc k) (suc n) = eqb-suc-suc n k ∙ only_at k n

-- of the ops' table only the one at 12 sends
pub send-number : (n : ℕ) → eqb n 12 ≡ is_send (op_of n)
unfolding op_of op_rule is_send
send-number n =
    only_at 12 n
    ∙ tested_at is_send
    (push ∷ load ∷ store ∷ add ∷ subtract ∷ multiply ∷ quotient ∷ remainder ∷ less ∷ equal ∷ not ∷ raise ∷ send ∷ [])
    n unknown

-- the number of two bytes goes through its signed value unchanged, and its rest by 256 is the lower byte
pub send-state : (b : List ℕ) (i : ℕ) → ((k : ℕ) → byte b k < 256) → byte b i ≡ unsigned 2 (signed 2 (field 2 b i)) % 256
send-state b i bytes = rw (unsigned_signed 2 (field 2 b i) (field_lt 2 b i bytes)) (omega (arith, bytes i))
