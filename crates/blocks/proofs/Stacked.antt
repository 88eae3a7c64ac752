-- Laws of the stack that the first n of some cells hold, by recursion over n: how high it is, what is at each depth, what is below,
-- and what a store on top of it makes. Assumes nothing.
use mathlib.Core.Path.{◌≡◌, refl, sym, ap, ◌∙◌}
use mathlib.Core.List.{List}
use Prim.Native.Nat.{ℕ, zero, suc, ◌+◌, ◌-◌, ◌≤◌, ◌<◌}
use native.Mathlib.Numerals.{add-one}
use native.Mathlib.Omega.{arith}
use lib.IntN.{ℤ, pos}
use lib.ListN.{length, get_or, set, drop, get_or-eq_default}
use lib.Seq.{get_or-set_same, get_or-set_other}
use borrow.Author.Tests.{lt-ltb, le-ltb}
use mir.Syntax.{w32}
use mir.Val.{SFits, to_z, of_z}
use mir.ValLaws.{to_z-of_z}
use Rattle.rules.specs.Lists.{when◌then◌else◌}
use Rattle.rules.specs.Chart.{stack_places}
use Rattle.rules.specs.Block.{top, lower, ◌onto◌}
use Rattle.blocks.specs.Stacks.{stack_of}

pub stack-length : (cells : List ℤ) (n : ℕ) → length (stack_of cells n) ≡ n
unfolding stack_of
stack-length cells zero = refl
stack-length cells (suc n) = ap suc (stack-length cells n)

-- the value at depth k, and 0 past the last
value-at : (cells : List ℤ) (n k : ℕ) → k < n → get_or (stack_of cells n) k (pos 0) ≡ get_or cells (n - suc k) (pos 0)
unfolding stack_of
value-at cells zero k h = absurd (omega arith)
value-at cells (suc n) zero h = let e : suc n - 1 ≡ n = omega arith in rw e
value-at cells (suc n) (suc k) h = let e : suc n - suc (suc k) ≡ n - suc k = omega arith in rw e (value-at cells n k (omega arith))

value-past : (cells : List ℤ) (n k : ℕ) → n ≤ k → get_or (stack_of cells n) k (pos 0) ≡ pos 0
value-past cells n k h = get_or-eq_default (stack_of cells n) (pos 0) (rw (stack-length cells n) h)

-- as the machine reads it
read_at : (cells : List ℤ) (n k : ℕ) → SFits w32 (get_or cells (n - suc k) (pos 0)) → k < n
    → to_z w32 (of_z w32 (get_or cells (n - suc k) (pos 0))) ≡ get_or (stack_of cells n) k (pos 0)
read_at cells n k f h = to_z-of_z w32 (get_or cells (n - suc k) (pos 0)) f ∙ sym (value-at cells n k h)

-- the top, and 0 where there is none
pub top-none : (cells : List ℤ) (n : ℕ) → n ≡ 0 → pos 0 ≡ top (stack_of cells n)
unfolding top
top-none cells n e = sym (value-past cells n 0 (omega (arith, e)))

pub top-read : (cells : List ℤ) (n : ℕ) → SFits w32 (get_or cells (n - 1) (pos 0)) → (n ≡ 0 → ⊥)
    → to_z w32 (of_z w32 (get_or cells (n - 1) (pos 0))) ≡ top (stack_of cells n)
unfolding top
top-read cells n f some = read_at cells n 0 f (omega (arith, some))

-- the value below it
pub lower-none : (cells : List ℤ) (n : ℕ) → n < 2 → pos 0 ≡ lower (stack_of cells n)
unfolding lower
lower-none cells n few = sym (value-past cells n 1 (omega (arith, few)))

pub lower-read : (cells : List ℤ) (n : ℕ) → SFits w32 (get_or cells (n - 2) (pos 0)) → 2 ≤ n
    → to_z w32 (of_z w32 (get_or cells (n - 2) (pos 0))) ≡ lower (stack_of cells n)
unfolding lower
lower-read cells n f two = read_at cells n 1 f (omega (arith, two))

-- the stack without its top k
pub stack-drop : (cells : List ℤ) (k n : ℕ) → stack_of cells (n - k) ≡ drop k (stack_of cells n)
unfolding stack_of
stack-drop cells zero n = let e : n - 0 ≡ n = omega arith in rw e
stack-drop cells (suc k) zero = let e : 0 - suc k ≡ 0 = omega arith in rw e
stack-drop cells (suc k) (suc n) = let e : suc n - suc k ≡ n - k = omega arith in rw e (stack-drop cells k n)

-- an empty one stays
pub none-dropped : (cells : List ℤ) (n : ℕ) → n ≡ 0 → stack_of cells n ≡ drop 1 (stack_of cells n)
unfolding stack_of
none-dropped cells n e = rw e

-- a store above the stack leaves it
stack_above : (cells : List ℤ) (m n : ℕ) (v : ℤ) → n ≤ m → stack_of (set cells m v) n ≡ stack_of cells n
unfolding stack_of
stack_above cells m zero v h = refl
stack_above cells m (suc n) v h = rw (get_or-set_other cells m n v (pos 0) (λ e. omega arith), stack_above cells m n v (omega arith))

-- a store on top of it; or no cell is left
pub pushed : (cells : List ℤ) (n : ℕ) (v : ℤ) → length cells ≡ stack_places → n < stack_places
    → stack_of (set cells n v) (n + 1) ≡ (v onto stack_of cells n)
unfolding stack_of ◌onto◌ when◌then◌else◌
pushed cells n v l h =
    let room : n < length cells = omega arith in
    rw (add-one, get_or-set_same cells n v (pos 0) room, stack_above cells n n v (omega arith), stack-length cells n, lt-ltb n stack_places h)

pub full : (cells : List ℤ) (n : ℕ) (v : ℤ) → stack_places ≤ n → stack_of cells n ≡ (v onto stack_of cells n)
unfolding ◌onto◌ when◌then◌else◌
full cells n v h = rw (stack-length cells n, le-ltb n stack_places h)
