-- The byte that was read is the lower one of the second operand. Assumes nothing.
use mathlib.Core.Path.{◌∙◌}
use Prim.Native.Nat.{◌+◌}
use native.Mathlib.Omega.{arith}
use Rattle.chart.proofs.Sends.{send-state}
use Rattle.chart.proofs.instructions.state_at.Goals as goal

pub returns : goal.returns
returns c = c.at.ensures ∙ send-state c.args.bytes.now (c.args.place + 4) (λ k. omega (arith, c.type_inv.bytes k))
