-- A number is a leaf's where it is 0. Assumes nothing.
use Rattle.std.proofs.Common.{refl, ◌∙◌}
use Rattle.checker.proofs.KindNumbers.{leaf-is}
use Rattle.checker.proofs.states.is_leaf.Goals as goal

pub returns : goal.returns
returns c = c.eq.ensures ∙ rw c.kind.ensures (leaf-is _ refl refl refl _)
