-- The loop's invariant: the place is that of the segment at hand, and the segments from the start on that have the two bytes are
-- those from here on. Assumes nothing.
use mathlib.Core.Path.{sym, ◌∙◌}
use native.Mathlib.Omega.{arith}
use borrow.Author.Tests.{eq-eqb, ne_eqb}
use Rattle.chart.specs.Read.{starting_from}
use Rattle.chart.proofs.Ranges.{keep-skip}
use Rattle.chart.proofs.Firsts.{segment-here, no-segment}
use Rattle.chart.proofs.Sources.{same_source}
use Rattle.chart.proofs.segments.listed.Goals as goal

pub returns-then-at-source : goal.returns-then-at-source
unfolding starting_from
returns-then-at-source c = let l = c.loop-t in
    segment-here _ l.t c.args.h.segments l.invariant.1 c.loop-t-test.true
    (sym (same_source c.args.chart.now c.args.h l.t c.args.source c.type_inv.chart l.invariant.0) ∙ eq-eqb _ _ (sym c.at.ensures ∙ c.if-at-source.true))

pub loop-t-preserved : goal.loop-t-preserved
loop-t-preserved c = let l = c.loop-t in (
  omega arith,
  l.invariant.1 ∙ keep-skip _ l.t c.args.h.segments c.loop-t-test.true
      (sym (same_source c.args.chart.now c.args.h l.t c.args.source c.type_inv.chart l.invariant.0) ∙ ne_eqb _ _ (λ q. c.if-at-source.false (c.at.ensures ∙ q))),
)

pub returns : goal.returns
unfolding starting_from
returns c = no-segment _ c.loop-t.t c.args.h.segments c.loop-t.invariant.1 c.loop-t-test.false
