-- The value of the unsigned number, by the machine's cast. Assumes nothing.
use mathlib.Core.Path.{ap, sym, ◌∙◌}
use native.Mathlib.Omega.{arith}
use mir.Syntax.{w8}
use Rattle.rules.specs.Bytes.{signed}
use Rattle.fields.proofs.Laws.{field-one}
use Rattle.fields.proofs.Signs.{signed-held}
use Rattle.fields.proofs.I8Field.at.Goals as goal

pub returns : goal.returns
returns c = signed-held w8 c.at.result _ (omega arith) c.cast_signed.ensures ∙ ap (signed 1) (c.at.ensures ∙ sym (field-one c.args.s.now c.args.place))
