-- The room left and the items noted stay the same in sum, a relation that all the rules keep: an item takes one place of
-- the room, and nothing else touches either. Assumes nothing.
use mathlib.Core.Path.{◌≡◌, refl, ◌∙◌}
use Prim.Native.Nat.{ℕ, ◌+◌}
use native.Mathlib.Omega.{arith}
use lib.ListN.{length, length-append}
use Rattle.rules.specs.Chart.{Chart}
use Rattle.rules.specs.Doing.{Now, went}
use Rattle.rules.specs.Run.{step}
use Rattle.rules.proofs.Closing.{step-has}
use Rattle.rules.proofs.Keeping.{Lawful, keeps-closed}

abbrev pub Rooms : Now → Now → Type 0
Rooms n n' = length n'.trace + n'.room ≡ length n.trace + n.room

rooms : Lawful Rooms
rooms =
    record {
      same = λ n. refl;
      both = λ n n₁ n' p q. q ∙ p;
      paid = λ n u e. refl;
      noted = λ n r i e. simp length-append (omega arith);
      changed = λ n im. refl;
    }

pub step-rooms : (c : Chart) (e : ℕ) (n : Now) (a : Unit {0}) (n' : Now) → step c e n ≡ went a n' → Rooms n n'
step-rooms c e = (step-has (keeps-closed rooms) c e).at
