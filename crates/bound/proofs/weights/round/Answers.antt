-- A segment that starts at a junction adds to that one's sum. Assumes nothing.
use mathlib.Core.Path.{ap}
use native.Mathlib.Omega.{arith}
use Rattle.std.proofs.Common.{rules}
use Rattle.rules.specs.declared.headers.Header.{Header}
use Rattle.bound.proofs.Starting.{starts-on, starts-elsewhere}
use Rattle.bound.proofs.Weighing.{round-none, round-more, round_same, round-all}
use Rattle.bound.proofs.weights.round.Goals as goal
use Rattle.bound.proofs.weights.round.Goals.{in-Some-Junction, in-Some+in-Outer-1, in-None-1}

pub loop-n-init : goal.loop-n-init
loop-n-init c = round-none

pub loop-n-preserved : goal.loop-n-preserved
loop-n-preserved c =
    let elsewhere = starts-elsewhere c.args.chart.now c.loop-n.n c.source.ensures in
    elim c.match-source.branch [
      | in-Some-Junction w ↦ let here = starts-on c.args.chart.now c.loop-n.n c.source.ensures w.in-Some-Junction.is w.in-Some-Junction.field-0-is in
          round-more c.loop-n.invariant (omega arith) here w.weight.ensures w.plus.ensures w.sums-is
      | in-Some+in-Outer-1 w ↦ round_same c.loop-n.invariant (elsewhere (λ j e. search rules)) w.sums-is
      | in-None-1 w ↦ round_same c.loop-n.invariant (elsewhere (λ j e. search rules)) w.sums-is
    ]

pub returns : goal.returns
returns c = round-all c.loop-n.invariant c.loop-n.auto.n-end c.loop-n-test.false (ap (λ (h : Header). h.segments) c.header-n-end.ensures)
