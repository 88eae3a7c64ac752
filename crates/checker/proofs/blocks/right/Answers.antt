-- Every block first, then the root's. Assumes nothing.
use Rattle.std.proofs.Common.{rules}
use borrow.Author.Tests.{tests}
use Rattle.rules.specs.Accept.{block_right, blocks_right}
use Rattle.checker.proofs.Chains.{stops, goes_on}
use Rattle.checker.proofs.blocks.right.Goals as goal

pub returns-then-every_block : goal.returns-then-every_block
unfolding blocks_right
returns-then-every_block c =
    let all = c.every_block.ensures (λ p k. block_right c.args.chart.now k) (λ p k b x. search (rules, tests)) in
    goes_on all c.if-every_block.true c.root_has_none.ensures

pub returns-else-every_block : goal.returns-else-every_block
unfolding blocks_right
returns-else-every_block c =
    let all = c.every_block.ensures (λ p k. block_right c.args.chart.now k) (λ p k b x. search (rules, tests)) in
    stops _ all c.if-every_block.false
