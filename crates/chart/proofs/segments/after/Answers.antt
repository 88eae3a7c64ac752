-- Past the last segment there is none; else the first from the next number on is asked for. Assumes nothing.
use mathlib.Core.Path.{refl}
use Prim.Native.Nat.{◌+◌}
use native.Mathlib.Omega.{arith}
use Rattle.chart.specs.Read.{starting_from}
use Rattle.chart.proofs.Firsts.{no-segment}
use Rattle.chart.proofs.segments.after.Goals as goal

pub returns-then-h-t : goal.returns-then-h-t
unfolding starting_from
returns-then-h-t c = no-segment _ (c.args.t.0 + 1) c.args.h.segments refl (omega (arith, c.if-h-t.true))
