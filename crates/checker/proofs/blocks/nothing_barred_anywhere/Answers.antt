-- The test is the rule over the table's bytes, which are the chart's from its first instruction on. Assumes nothing.
use Rattle.std.proofs.Common.{◌≡◌, ◌∙◌, drop, rules}
use borrow.Author.Tests.{tests}
use Rattle.rules.specs.Chart.{instruction_at}
use Rattle.rules.specs.Accept.{nothing_barred}
use Rattle.chart.specs.Read.{block_of}
use Rattle.checker.specs.Meaning.{place_meant}
use Rattle.checker.specs.Parts.{barred_in}
use Rattle.checker.proofs.Parts.{barred-in}
use Rattle.checker.proofs.blocks.nothing_barred_anywhere.Goals as goal

pub returns : goal.returns
returns c =
    let chart = c.args.chart.now in
    let table : c.table-table.result.now ≡ drop (instruction_at chart 0) chart =
    rw (c.table-table.ensures, c.bytes.ensures, c.header.ensures) in
    c.every_block.ensures (nothing_barred chart) (λ p k b x.
    let tested : b ≡ barred_in c.table-table.result.now (place_meant p) (block_of k) = search (rules, tests) in
    tested ∙ rw table (barred-in chart (place_meant p) (block_of k)))
