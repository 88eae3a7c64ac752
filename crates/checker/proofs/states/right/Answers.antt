-- States first, then junctions, each number below its count. Assumes nothing.
use Rattle.std.proofs.Common.{ap, rules}
use borrow.Author.Tests.{tests}
use Rattle.rules.specs.Accept.{state_right, states_right}
use Rattle.rules.specs.declared.headers.Header.{Header}
use Rattle.checker.proofs.Chains.{stops, goes_on}
use Rattle.checker.proofs.Every.{all_below}
use Rattle.checker.proofs.states.right.Goals as goal

pub returns-then-all : goal.returns-then-all
unfolding states_right
returns-then-all c =
    let states = all_below (state_right c.args.chart.now) _ _ _ c.all.ensures.ran
    (ap (λ (h : Header). h.states) c.header-h.ensures) (λ x b q k. search (rules, tests)) in
    goes_on states c.if-all.true
    (all_below _ _ _ _ c.all-then-all.ensures.ran (ap (λ (h : Header). h.junctions) c.header-h.ensures) (λ x b q k. search (rules, tests)))

pub returns-else-all : goal.returns-else-all
unfolding states_right
returns-else-all c =
    let states = all_below (state_right c.args.chart.now) _ _ _ c.all.ensures.ran
    (ap (λ (h : Header). h.states) c.header-h.ensures) (λ x b q k. search (rules, tests)) in
    stops _ states c.if-all.false
