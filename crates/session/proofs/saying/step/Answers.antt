-- The answer's parts are the refusal, the units and the count of the items, and the line is theirs. Assumes nothing.
use native.Mathlib.Omega.{arith}
use Rattle.session.proofs.Texts.{items-count}
use Rattle.session.proofs.Numbered.{first, next, others, ended, room}
use Rattle.session.proofs.Answers.{few-items, step-told}
use Rattle.session.proofs.saying.step.Goals as goal

pub next-requires : goal.next-requires
next-requires c = omega (arith, room (first _ c.new-line.ensures c.number.ensures))

pub next-requires-2 : goal.next-requires-2
next-requires-2 c =
    let one = first _ c.new-line.ensures c.number.ensures in
    omega (arith, room (next one _ c.next.ensures))

pub items-requires : goal.items-requires
items-requires c =
    let one = first _ c.new-line.ensures c.number.ensures in
    let two = next one _ c.next.ensures in
    let three = next two _ c.next-2.ensures in
    omega (arith, room three, few-items _ _ _ _ _ _ c.step-answer.ensures)

pub end-requires : goal.end-requires
end-requires c =
    let one = first _ c.new-line.ensures c.number.ensures in
    let two = next one _ c.next.ensures in
    let three = next two _ c.next-2.ensures in
    let all = others three _ c.items.ensures in
    omega (arith, rw items-count at (room all), few-items _ _ _ _ _ _ c.step-answer.ensures)

pub returns : goal.returns
returns c =
    let one = first _ c.new-line.ensures c.number.ensures in
    let two = next one _ c.next.ensures in
    let three = next two _ c.next-2.ensures in
    let all = others three _ c.items.ensures in
    step-told _ _ _ _ _ _ c.step-answer.ensures (ended all c.end.ensures)
