-- Tests in a row, the first that fails deciding, and a choice by a test. Assumes nothing.
use mathlib.Core.Path.{◌≡◌}
use mathlib.Core.Bool.{Bool, true, false, ◌&&◌}
use Prim.Native.Nat.{ℕ}
use Rattle.rules.specs.Lists.{when◌then◌else◌}
use Rattle.rules.specs.Accept.{◌unless◌next◌}

-- a conjunction whose first test said s
pub stops : {a s : Bool} (b : Bool) → s ≡ a → s ≡ false → s ≡ a && b
stops b e f = rw (← e, f)

pub goes_on : {a b s r : Bool} → s ≡ a → s ≡ true → r ≡ b → r ≡ a && b
goes_on e t f = rw (← e, t) f

-- a refusal whose test failed, and one whose test passed
pub refused : (t : Bool) (k r : ℕ) → t ≡ false → (k unless t next r) ≡ k
unfolding ◌unless◌next◌
refused t k r e = rw e

pub passed : (t : Bool) (k r : ℕ) → t ≡ true → (k unless t next r) ≡ r
unfolding ◌unless◌next◌
passed t k r e = rw e

pub ruleset refusals = (refused, passed)

-- a choice by a test
pub chosen : {A : Type 0} (t : Bool) (x y : A) → t ≡ true → (when t then x else y) ≡ x
unfolding when◌then◌else◌
chosen t x y e = rw e

pub other : {A : Type 0} (t : Bool) (x y : A) → t ≡ false → (when t then x else y) ≡ y
unfolding when◌then◌else◌
other t x y e = rw e

pub ruleset choices = (chosen, other)
