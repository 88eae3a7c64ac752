-- The answer's parts are the refusal and the bound, and the line is theirs. Assumes nothing.
use mathlib.Core.Path.{◌≡◌}
use native.Mathlib.Omega.{arith}
use Rattle.std.proofs.lemmas.Grind.{common_steps}
use Rattle.std.proofs.Common.{◌%◌}
use Rattle.rules.specs.Lists.{within}
use Rattle.session.proofs.Numbered.{first, next, ended, room}
use Rattle.session.proofs.Answers.{bound-parts, follow}
use Rattle.session.proofs.saying.bound.Goals as goal

pub next-requires : goal.next-requires
next-requires c = omega (arith, room (first _ c.new-line.ensures c.number.ensures))

pub end-requires : goal.end-requires
end-requires c =
    let refusal = first _ c.new-line.ensures c.number.ensures in
    omega (arith, room (next refusal _ c.next.ensures))

pub returns-clause-line_value : goal.returns-clause-line_value
returns-clause-line_value c =
    let (refusal, least) = bound-parts _ c.bound-answer.ensures in
    let one = first _ c.new-line.ensures c.number.ensures in
    let two = next one _ c.next.ensures in
    rw (← refusal, ← least) (ended two c.end.ensures)

pub returns-clause-more_value : goal.returns-clause-more_value
returns-clause-more_value c =
    let (refusal, least) = bound-parts _ c.bound-answer.ensures in
    let test : c.contains.result ≡ within 1 11 (c.bound-answer.result % 256) = grind (arith, common_steps) in
    follow refusal test
