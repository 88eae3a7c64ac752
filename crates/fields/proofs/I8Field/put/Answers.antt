-- The number of the value is put, by the machine's cast. Assumes nothing.
use mathlib.Core.Path.{ap, ◌∙◌}
use mir.Syntax.{w8}
use Rattle.rules.specs.Bytes.{put}
use Rattle.fields.proofs.Signs.{unsigned-held}
use Rattle.fields.proofs.I8Field.put.Goals as goal

pub returns : goal.returns
returns c = let a = c.args in
    c.put.ensures ∙ ap (put 1 a.s.now a.place) (unsigned-held w8 a.self _ c.ranges.self c.cast_unsigned.ensures)
