-- Each byte of the bits and the history is tested. Assumes nothing.
use Rattle.rules.specs.Accept.{zero_at}
use Rattle.rules.specs.Image.{not_started}
use borrow.Author.Rules.{rules}
use borrow.Author.Tests.{tests}
use Rattle.image.proofs.Tests.{every-between}
use Rattle.image.proofs.active.not_started.Goals as goal

pub returns : goal.returns
unfolding not_started zero_at
returns c = every-between (zero_at c.args.image.now) _ _ _ c.all.ensures.ran (λ x b q k. search (rules, tests))
