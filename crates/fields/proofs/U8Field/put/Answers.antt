-- A byte that is there is stored, and else nothing, as `put` does. Assumes nothing.
use mathlib.Core.Path.{sym}
use native.Mathlib.Omega.{arith}
use Rattle.fields.proofs.Laws.{put_one, put-out}
use Rattle.fields.proofs.U8Field.put.Goals as goal

pub returns-then-place-s : goal.returns-then-place-s
returns-then-place-s c = let a = c.args in
    sym (put_one a.s.now a.place a.self (omega arith))

pub returns-else-place-s : goal.returns-else-place-s
returns-else-place-s c = let a = c.args in
    sym (put-out 1 a.s.now a.place a.self (omega arith))
