-- Operands as the machine holds them: its test of a signed one for 0 is the rules', and so is its test for a state, since a
-- negative number's bits are above every state's number. Assumes nothing.
use mathlib.Core.Path.{◌≡◌, refl}
use Prim.Native.Nat.{◌<◌}
use native.Mathlib.Omega.{arith}
use lib.Dec.{eqb, ltb}
use lib.IntN.{ℤ, pos, negsuc}
use mir.Syntax.{w16}
use mir.Val.{SFits, of_z}
use borrow.Author.Tests.{le-ltb, ne_eqb}
use Rattle.rules.specs.Bytes.{equals, is_zero, unsigned}
use Rattle.rules.specs.Chart.{Chart, states}
use Rattle.rules.specs.Accept.{any_state}

pub zero_held : (z : ℤ) → SFits w16 z → eqb (of_z w16 z) 0 ≡ is_zero z
unfolding is_zero equals
zero_held (pos n) f = refl
zero_held (negsuc n) f = ne_eqb (of_z w16 (negsuc n)) 0 (λ e. omega (arith, f.sfits))

pub state-held : (c : Chart) (z : ℤ) → SFits w16 z → states c < 256 → ltb (unsigned 2 z) (states c) ≡ any_state c z
unfolding unsigned any_state
state-held c (pos n) f h = refl
state-held c (negsuc n) f h = le-ltb (unsigned 2 (negsuc n)) (states c) (omega (arith, f.sfits))
