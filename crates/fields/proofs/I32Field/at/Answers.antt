-- The value of the unsigned number, by the machine's cast. Assumes nothing.
use mathlib.Core.Path.{ap, ◌∙◌}
use native.Mathlib.Omega.{arith}
use mir.Syntax.{w32}
use Rattle.rules.specs.Bytes.{signed}
use Rattle.fields.proofs.Signs.{signed-held}
use Rattle.fields.proofs.I32Field.at.Goals as goal

pub returns : goal.returns
returns c = signed-held w32 c.at.result _ (omega arith) c.cast_signed.ensures ∙ ap (signed 4) c.at.ensures
