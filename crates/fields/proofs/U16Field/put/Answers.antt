-- Both bytes are put where they are there; where only the first is, that one. Assumes nothing.
use mathlib.Core.Path.{sym, ◌∙◌}
use native.Mathlib.Omega.{arith}
use Prim.Native.Nat.{◌%◌}
use Rattle.fields.proofs.Laws.{put_one, put-out, put-short, put-part}
use Rattle.fields.proofs.U16Field.put.Goals as goal

pub returns-then-s-place-gt1 : goal.returns-then-s-place-gt1
returns-then-s-place-gt1 c = let a = c.args in
    put-part 2 a.s.now a.place a.self _ (omega arith) (c.copy_from_slice.ensures.after ∙ c.to_le_bytes.ensures)

pub returns-else-s-place-gt1 : goal.returns-else-s-place-gt1
returns-else-s-place-gt1 c = let a = c.args in
    sym (put-short 1 1 a.s.now a.place a.self (omega arith) ∙ put_one a.s.now a.place (a.self % 256) (omega arith))

pub returns-else-place-s : goal.returns-else-place-s
returns-else-place-s c = let a = c.args in
    sym (put-out 2 a.s.now a.place a.self (omega arith))
