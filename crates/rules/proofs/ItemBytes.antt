-- The items of a trace as bytes: how many bytes they are. Assumes nothing.
use mathlib.Core.Path.{◌≡◌, refl}
use mathlib.Core.List.{List, [], ◌∷◌}
use Prim.Native.Nat.{ℕ, ◌*◌}
use native.Mathlib.Omega.{arith}
use lib.ListN.{length}
use Rattle.rules.specs.Bytes.{bytes_of}
use Rattle.rules.specs.Doing.{item_size}
use Rattle.rules.specs.Calls.{item_bytes}

pub items-length : (items : List ℕ) → length (item_bytes items) ≡ item_size * length items
unfolding item_bytes bytes_of
items-length [] = refl
items-length (i ∷ is) = omega (arith, items-length is)
