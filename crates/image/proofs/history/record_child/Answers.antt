-- A state's number is a byte, and stored as it is. Assumes nothing.
use Prim.Native.Nat.{◌+◌}
use native.Mathlib.Omega.{arith}
use Rattle.fields.proofs.Laws.{put_one}
use Rattle.image.proofs.history.record_child.Goals as goal

pub returns : goal.returns
returns c = let a = c.args in
    rw c.put.ensures (put_one a.image.now (10 + a.p.0) a.s.0 (omega arith))
