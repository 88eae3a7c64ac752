-- The chart's line is written; then its lift is made fresh and the events follow, or nothing does. Assumes nothing.
use mathlib.Core.Path.{◌∙◌}
use Rattle.session.proofs.Order.{chart-taken, chart-refused, text-taken, text-refused}
use Rattle.session.proofs.Written.{adds-then}
use Rattle.session.proofs.say_chart.Goals as goal

pub returns-then-not-said-clause-leaves : goal.returns-then-not-said-clause-leaves
returns-then-not-said-clause-leaves g c =
    chart-refused c.args.chart.now c.args.board.now c.args.trace.now c.args.events.now c.bound-said.ensures.more_value
    c.if-not-said.true

pub returns-then-not-said-clause-writes : goal.returns-then-not-said-clause-writes
returns-then-not-said-clause-writes g c =
    let text = text-refused c.args.chart.now c.args.board.now c.args.trace.now c.args.events.now c.bound-said.ensures.more_value c.if-not-said.true in
    rw (c.text.ensures ∙ c.bound-said.ensures.line_value ∙ text) at c.put.ensures

pub returns-clause-leaves : goal.returns-clause-leaves
returns-clause-leaves g c =
    chart-taken c.args.chart.now c.args.board.now c.args.trace.now c.args.events.now c.bound-said.ensures.more_value
    c.if-not-said.false c.fresh.ensures c.say_events.ensures.leaves

pub returns-clause-writes : goal.returns-clause-writes
returns-clause-writes g c =
    let line = rw (c.text.ensures ∙ c.bound-said.ensures.line_value) at c.put.ensures in
    let text = text-taken c.args.chart.now c.args.board.now c.args.trace.now c.args.events.now c.bound-said.ensures.more_value c.if-not-said.false c.fresh.ensures in
    rw text at (adds-then _ _ _ _ _ line c.say_events.ensures.writes)
