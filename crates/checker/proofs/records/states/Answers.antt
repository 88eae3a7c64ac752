-- Each number below the count. Assumes nothing.
use Rattle.std.proofs.Common.{ap, rules}
use borrow.Author.Tests.{tests}
use Rattle.rules.specs.Bytes.{ascii}
use Rattle.rules.specs.Accept.{marked, record_right}
use Rattle.rules.specs.declared.headers.Header.{Header}
use Rattle.checker.proofs.Every.{all_below}
use Rattle.checker.proofs.records.states.Goals as goal

pub returns : goal.returns
unfolding record_right marked ascii
returns c = all_below _ _ _ _ c.all.ensures.ran (ap (λ (h : Header). h.states) c.header.ensures) (λ x b q k. search (rules, tests))
