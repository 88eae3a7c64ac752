-- The value of the unsigned number, by the machine's cast. Assumes nothing.
use mathlib.Core.Path.{ap, ◌∙◌}
use native.Mathlib.Omega.{arith}
use mir.Syntax.{w16}
use Rattle.rules.specs.Bytes.{signed}
use Rattle.fields.proofs.Signs.{signed-held}
use Rattle.fields.proofs.I16Field.at.Goals as goal

pub returns : goal.returns
returns c = signed-held w16 c.at.result _ (omega arith) c.cast_signed.ensures ∙ ap (signed 2) c.at.ensures
