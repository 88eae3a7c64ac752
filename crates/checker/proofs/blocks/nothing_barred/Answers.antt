-- Each of the block's instructions passes the test that the rules name. Assumes nothing.
use Rattle.std.proofs.Common.{rules, arith}
use borrow.Author.Tests.{tests}
use Rattle.checker.specs.Parts.{barred_in, code_in}
use Rattle.checker.proofs.Every.{all_mapped}
use Rattle.checker.proofs.blocks.nothing_barred.Goals as goal

pub returns : goal.returns
unfolding barred_in code_in
returns c = all_mapped _ _ _ c.args.block.count _ _ _ c.all.ensures.ran (omega arith) (λ x b q k. search (rules, tests))
