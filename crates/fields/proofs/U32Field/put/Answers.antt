-- All bytes are put where they are there, else two and then two as far as they are, as four are put. Assumes nothing.
use mathlib.Core.Path.{sym, ◌∙◌}
use native.Mathlib.Omega.{arith}
use Rattle.fields.proofs.Laws.{put-out, put-split, put-part}
use Rattle.fields.proofs.U32Field.put.Goals as goal

pub returns-then-s-place-gt3 : goal.returns-then-s-place-gt3
returns-then-s-place-gt3 c = let a = c.args in
    put-part 4 a.s.now a.place a.self _ (omega arith) (c.copy_from_slice.ensures.after ∙ c.to_le_bytes.ensures)

pub returns-else-s-place-gt3 : goal.returns-else-s-place-gt3
returns-else-s-place-gt3 c = let a = c.args in
    cc (put-split 2 2 a.s.now a.place a.self)

pub returns-else-place-s : goal.returns-else-place-s
returns-else-place-s c = let a = c.args in
    sym (put-out 4 a.s.now a.place a.self (omega arith))
