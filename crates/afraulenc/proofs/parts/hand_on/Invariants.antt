-- The loop's invariant: the items before this one stand at the start, and past them the bytes stay. Assumes nothing.
use mathlib.Core.Path.{◌≡◌}
use Rattle.afraulenc.proofs.Committing.{handed}
use Rattle.afraulenc.proofs.parts.hand_on.Given as goal

abbrev pub invariant-loop-i : goal.invariant-loop-i
invariant-loop-i l = l.trace ≡ handed l.items l.initial.trace l.i
