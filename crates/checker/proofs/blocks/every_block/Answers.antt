-- Every state's blocks, and then every segment's, whatever rule the test is one of. Assumes nothing.
use Rattle.std.proofs.Common.{ap, ◌∙◌, rules}
use borrow.Author.Tests.{tests}
use Rattle.rules.specs.Accept.{every_block}
use Rattle.rules.specs.declared.headers.Header.{Header}
use Rattle.checker.specs.Tests.{state_blocks, segment_blocks}
use Rattle.checker.proofs.Chains.{stops, goes_on}
use Rattle.checker.proofs.Every.{all_below}
use Rattle.checker.proofs.blocks.every_block.Goals as goal
use Rattle.checker.proofs.blocks.every_block.Goals.{then-all, else-all}

pub returns : goal.returns
unfolding every_block
returns g c rule means =
    let chart = c.args.chart.now in
    let of_states = all_below (state_blocks rule chart) _ _ _ c.all.ensures.ran
    (ap (λ (h : Header). h.states) c.header-h.ensures) (λ x b q k. search (rules, tests, means)) in
    elim c.if-all.branch [
      | then-all w ↦
          let of_segments = all_below (segment_blocks rule chart) _ _ _ w.all-then-all.ensures.ran
          (ap (λ (h : Header). h.segments) c.header-h.ensures) (λ x b q k. search (rules, tests, means)) in
          w.result-is ∙ goes_on of_states w.if-all.true of_segments
      | else-all w ↦ w.result-is ∙ stops _ of_states w.if-all.false
    ]
