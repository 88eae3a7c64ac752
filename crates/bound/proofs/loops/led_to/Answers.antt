-- The tests in a row, each of what was read: the start, its flag, the end, the end's number. Assumes nothing.
use Rattle.std.proofs.Common.{rules}
use Rattle.bound.proofs.Starting.{starts-elsewhere, starts-on, no-junction, ends-there, ends-on, on-state, not-flagged, past-junctions, flagged-on}
use Rattle.bound.proofs.loops.led_to.Goals as goal

pub returns-in_default : goal.returns-in_default
returns-in_default c =
    let off = starts-elsewhere c.args.chart.now c.args.t.0 c.source.ensures (λ j e. search rules) in
    no-junction c.args.chart.now c.args.t.0 c.args.here.now off

pub returns-in_default-2 : goal.returns-in_default-2
returns-in_default-2 c =
    let off = starts-elsewhere c.args.chart.now c.args.t.0 c.source.ensures (λ j e. search rules) in
    no-junction c.args.chart.now c.args.t.0 c.args.here.now off

pub returns-then-not-here-from : goal.returns-then-not-here-from
returns-then-not-here-from c =
    let from = starts-on c.args.chart.now c.args.t.0 c.source.ensures c.in-Some-Junction.is c.in-Some-Junction.field-0-is in
    not-flagged c.args.chart.now c.args.t.0 c.args.here.now from c.if-not-here-from.true

pub returns-in_default-end : goal.returns-in_default-end
returns-in_default-end c =
    let on = ends-there c.args.chart.now c.args.t.0 c.end.ensures c.in_default-end.is in
    on-state c.args.chart.now c.args.t.0 c.args.here.now on

pub returns-then-to-header : goal.returns-then-to-header
returns-then-to-header c =
    let from = starts-on c.args.chart.now c.args.t.0 c.source.ensures c.in-Some-Junction.is c.in-Some-Junction.field-0-is in
    let to = ends-on c.args.chart.now c.args.t.0 c.end.ensures c.in-Junction.is in
    let inside = rw c.header.ensures at c.if-to-header.true in
    flagged-on c.args.chart.now c.args.t.0 c.args.here.now from to c.if-not-here-from.false inside

pub returns-else-to-header : goal.returns-else-to-header
returns-else-to-header c =
    let from = starts-on c.args.chart.now c.args.t.0 c.source.ensures c.in-Some-Junction.is c.in-Some-Junction.field-0-is in
    let to = ends-on c.args.chart.now c.args.t.0 c.end.ensures c.in-Junction.is in
    past-junctions c.args.chart.now c.args.t.0 c.args.here.now from to (rw c.header.ensures at c.if-to-header.false)
