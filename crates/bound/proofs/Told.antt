-- The tests of a bound: all of a range, and in order the answer that each test gives. Assumes nothing.
use mathlib.Core.Path.{◌≡◌, refl, sym, ap, ◌∙◌}
use mathlib.Core.Bool.{Bool, true, false, ◌&&◌}
use mathlib.Core.Bool as B
use Prim.Native.Nat.{ℕ, zero, suc, ◌+◌, ◌≤◌, ◌<◌}
use native.Mathlib.Omega.{arith}
use borrow.Author.Tests.{le-leb, lt-leb}
use Rattle.std.specs.List.{list_all, range_with_len}
use Rattle.rules.specs.Lists.{up_from, below, every}
use Rattle.rules.specs.Chart.{Chart, Junction, junctions, instructions, instruction}
use Rattle.rules.specs.Accept.{is_send, ◌unless◌next◌}
use Rattle.rules.specs.Bound.{loops, bound, bound_refusal}
use Rattle.rules.specs.Doing.{because, most_units}
use Rattle.bound.specs.Sums.{capped, bound_told, bound_answer}

abbrev pub sends_not : Chart → ℕ → Bool
sends_not c i = B.not (is_send (instruction c i).op)

abbrev pub loops_not : Chart → Junction → Bool
loops_not c j = B.not (loops c j)

-- a chain's test of all of a range, as the rules have it
from_range : (f : ℕ → Bool) (a k : ℕ) → list_all f (range_with_len a k) ≡ every f (up_from a k)
unfolding every up_from
from_range f a zero = refl
from_range f a (suc k) = ap (λ (t : Bool). f a && t) (from_range f (a + 1) k)

pub every-range : (f : ℕ → Bool) {n m : ℕ} → n ≡ m → list_all f (range_with_len 0 n) ≡ every f (below m)
unfolding below
every-range f {n} {m} e = from_range f 0 n ∙ ap (λ (k : ℕ). every f (up_from 0 k)) e

-- the answer that each test gives, once those before it have passed
module _ (c : Chart) {s : Bool} (sends : s ≡ every (sends_not c) (below (instructions c))) where
  pub told-sends : s ≡ false → record { refusal = because 21; bound = 0 } ≡ bound_answer c
  unfolding bound_answer bound_told bound_refusal ◌unless◌next◌
  told-sends off = rw (sym sends ∙ off)

  module _ (quiet : s ≡ true) {l : Bool} (leads : l ≡ every (loops_not c) (below (junctions c))) where
    pub told-loops : l ≡ false → record { refusal = because 22; bound = 0 } ≡ bound_answer c
    unfolding bound_answer bound_told bound_refusal ◌unless◌next◌
    told-loops off = rw (sym sends ∙ quiet, sym leads ∙ off)

    module _ (ends : l ≡ true) {n : ℕ} (units : n ≡ capped (bound c)) where
      pub told-bound : most_units < n → record { refusal = because 23; bound = 0 } ≡ bound_answer c
      unfolding bound_answer bound_told bound_refusal ◌unless◌next◌
      told-bound h = rw (sym sends ∙ quiet, sym leads ∙ ends, lt-leb (bound c) most_units (omega arith))

      pub told-units : n ≤ most_units → record { refusal = because 0; bound = n } ≡ bound_answer c
      unfolding bound_answer bound_told bound_refusal ◌unless◌next◌
      told-units h =
          let e : n ≡ bound c = omega arith in
          rw (sym sends ∙ quiet, sym leads ∙ ends, le-leb (bound c) most_units (omega arith), e)
