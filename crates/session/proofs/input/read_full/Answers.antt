-- What came stands at the front of the bytes, which keep their length, and is the front of what was to come. Assumes nothing.
use Rattle.std.proofs.Common.{rules, length, ◌-◌}
use Rattle.session.proofs.Written.{consumes-then, take-read}
use Rattle.session.proofs.input.read_full.Goals as goal

pub loop-length-preserved : goal.loop-length-preserved
loop-length-preserved g c =
    let left = length c.loop-length.bytes - c.loop-length.length in
    let all =
    take-read c.loop-length.length left c.in-Ok.came c.loop-length.bytes c.read.new.buf
    c.loop-length.invariant.0 c.in-Ok.ensures.bound.0 in (
      search rules,
      search rules,
      rw all (consumes-then _ _ _ _ _ c.loop-length.invariant.2 c.in-Ok.ensures.bytes.0),
    )
