-- Each round goes a segment further. Assumes nothing.
use mathlib.Core.Path.{ap}
use Rattle.rules.specs.declared.headers.Header.{Header}
use Rattle.bound.proofs.Weighing.{rounds-none, rounds-more, rounds-all}
use Rattle.bound.proofs.weights.of_junctions.Goals as goal

pub loop-init : goal.loop-init
loop-init c = rounds-none

pub loop-preserved : goal.loop-preserved
loop-preserved c = rounds-more c.loop.invariant (rw c.bytes.ensures at c.know_bytes.ensures) c.round-sums.ensures

pub returns : goal.returns
returns c = rounds-all c.loop.invariant c.loop.auto.counter-end c.loop-test.false (ap (λ (h : Header). h.junctions) c.header-end.ensures)
