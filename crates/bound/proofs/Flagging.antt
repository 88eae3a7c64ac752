-- Flags of junctions: what one tells, when all are off, and one more put on. Assumes nothing.
use mathlib.Core.Path.{◌≡◌, refl}
use mathlib.Core.Bool.{Bool, true, false, ◌||◌, or-false}
use mathlib.Core.Bool as B
use Prim.Native.Nat.{ℕ, ◌<◌}
use lib.Dec.{eqb}
use lib.ListN.{set, replicate}
use borrow.Author.Tests.{eq-eqb}
use Rattle.bound.specs.Flags.{flags, is_flagged}
use Rattle.bound.proofs.Tabling.{at_table, empty-table, set-table}

pub flagged : (f : ℕ → Bool) (j : ℕ) → j < 256 → is_flagged (flags f) j ≡ f j
unfolding flags
flagged f j h = at_table false f j h

pub no-flags : (f : ℕ → Bool) → ((j : ℕ) → f j ≡ false) → replicate 256 false ≡ flags f
unfolding flags
no-flags f e = empty-table false f e

pub flag-more : (f g : ℕ → Bool) (k : ℕ) → k < 256 → ((j : ℕ) → g j ≡ f j || eqb k j) → set (flags f) k true ≡ flags g
unfolding flags
flag-more f g k h e =
    set-table false f g k h (rw (e k, eq-eqb k k refl, B.or-true (f k)))
    (λ j q. rw (e j, q, or-false (f j)))
