-- The letters, and then each zero byte. Assumes nothing.
use Rattle.std.proofs.Common.{rules}
use borrow.Author.Tests.{tests}
use Rattle.checker.proofs.Every.{all_in}
use Rattle.checker.proofs.Chains.{goes_on}
use Rattle.checker.proofs.records.record.Goals as goal

pub returns-then-letters : goal.returns-then-letters
returns-then-letters c = goes_on c.letters.ensures c.if-letters.true
    (all_in _ _ _ _ _ c.all.ensures.ran (cc) (λ x b q k. search (rules, tests)))
