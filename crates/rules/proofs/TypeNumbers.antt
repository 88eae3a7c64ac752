-- What the makers of the code's types answer has the paper's number: 3 for a header, 12 for a lift's part. Both answer one
-- of two things by a test. Assumes nothing.
use mathlib.Core.Path.{◌≡◌, refl}
use mathlib.Core.Bool.{Bool, true, false}
use Prim.Native.Nat.{ℕ}
use lib.ListN.{length}
use Rattle.rules.specs.Lists.{when◌then◌else◌}
use Rattle.rules.specs.Accept.{◌unless◌next◌}
use Rattle.rules.specs.Calls.{Board, has_part, part_refusal}
use Rattle.rules.specs.Types.{fits_of, made_of, made_number, part_of, part_number}
use Rattle.rules.specs.declared.headers.Header.{Header}

-- an answer's number, where the first of two has 0 and the second k
by-test : {A : Type 0} (number : A → ℕ) (a b : A) (k : ℕ) → number a ≡ 0 → number b ≡ k → (t : Bool) → number (when t then a else b) ≡ (k unless t next 0)
unfolding ◌unless◌next◌ when◌then◌else◌
by-test number a b k ea eb true = ea
by-test number a b k ea eb false = eb

pub made-number : (h : Header) → made_number (made_of h) ≡ (3 unless fits_of h next 0)
unfolding made_number
made-number h = by-test made_number _ _ 3 refl refl (fits_of h)

pub part-number : (board : Board) (k : ℕ) → part_number (part_of k (length board)) ≡ part_refusal board k
unfolding part_number part_refusal
part-number board k = by-test part_number _ _ 12 refl refl (has_part (length board) k)
