-- The instruction that is read is the chart's, and its operands are those of its op. Assumes nothing.
use Rattle.std.proofs.Common.{◌≡◌, ap}
use Rattle.rules.specs.Chart.{instruction}
use Rattle.chart.specs.Read.{instruction_of}
use Rattle.checker.proofs.Parts.{chart-instruction, right-by-op}
use Rattle.checker.proofs.instructions.instruction_right.Goals as goal

pub returns : goal.returns
returns c =
    let read : instruction_of c.at-instruction.result ≡ instruction c.args.chart.now c.args.i =
    rw (c.at-instruction.ensures, c.bytes.ensures, c.instruction.ensures, c.header.ensures)
    (chart-instruction c.args.chart.now c.args.i) in
    right-by-op _ _ _ _ c.operands_right.ensures (ap (λ r. r.operands) c.rule_of.ensures) read
