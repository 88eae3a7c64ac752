-- A number is a kind's where it is 2 at most. Assumes nothing.
use Rattle.std.proofs.Common.{ap, ◌∙◌}
use Rattle.std.specs.Option.{is_some}
use Rattle.checker.proofs.KindNumbers.{kinds-below}
use Rattle.checker.proofs.states.kind_right.Goals as goal

pub returns : goal.returns
returns c = c.is_some.ensures ∙ ap is_some c.kind.ensures ∙ kinds-below _
