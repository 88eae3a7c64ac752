-- The number of a signed operand, as the machine holds it, is a state's where the operand is. Assumes nothing.
use mathlib.Core.Path.{◌≡◌, ap}
use native.Mathlib.Omega.{arith}
use mir.Syntax.{w16}
use Rattle.fields.proofs.Signs.{unsigned-held}
use Rattle.rules.specs.Chart.{states}
use Rattle.rules.specs.declared.headers.Header.{Header}
use Rattle.checker.proofs.Numbers.{state-held}
use Rattle.checker.proofs.instructions.any_state.Goals as goal

pub returns : goal.returns
returns c = let e : c.header.result.states ≡ states c.args.chart.now = ap (λ (x : Header). x.states) c.header.ensures in
    rw (unsigned-held w16 _ _ c.ranges.b c.cast_unsigned.ensures, e) (state-held c.args.chart.now _ c.ranges.b (omega arith))
