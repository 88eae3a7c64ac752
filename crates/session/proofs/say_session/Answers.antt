-- A session that is not bad has its whole chart; and what is read is as much of the input as tells what is said of it. Assumes
-- nothing.
use mathlib.Core.Path.{sym}
use Rattle.std.proofs.Common.{rules}
use Rattle.session.proofs.Order.{chart-within, session-bad, session-good, told-all, told-some}
use Rattle.session.proofs.say_session.Goals as goal

pub returns-then-is_bad-clause-all : goal.returns-then-is_bad-clause-all
returns-then-is_bad-clause-all g c so =
    told-all _ _ _ _ (sym (session-bad _ c.is_bad.ensures c.if-is_bad.true)) c.say_bad.ensures _ (search rules) _
    (c.read_full-came.ensures.all so)

pub returns-then-is_bad-clause-some : goal.returns-then-is_bad-clause-some
returns-then-is_bad-clause-some g c =
    told-some _ _ _ _ (sym (session-bad _ c.is_bad.ensures c.if-is_bad.true)) c.say_bad.ensures _ _ c.read_full-came.ensures.front

pub slice_bounds-say_chart-end : goal.slice_bounds-say_chart-end
slice_bounds-say_chart-end g c = chart-within _ c.is_bad.ensures c.if-is_bad.false c.chart_end-events.ensures

pub slice_bounds-say_chart-count-2 : goal.slice_bounds-say_chart-count-2
slice_bounds-say_chart-count-2 g c = chart-within _ c.is_bad.ensures c.if-is_bad.false c.chart_end-events.ensures

pub slice_bounds-say_chart-start-2 : goal.slice_bounds-say_chart-start-2
slice_bounds-say_chart-start-2 g c = chart-within _ c.is_bad.ensures c.if-is_bad.false c.chart_end-events.ensures

pub returns-clause-all : goal.returns-clause-all
returns-clause-all g c so =
    told-all _ _ _ _ (session-good _ c.is_bad.ensures c.if-is_bad.false c.chart_end-events.ensures) c.say_chart.ensures.writes
    _ (search rules) _ (c.read_full-came.ensures.all so)

pub returns-clause-some : goal.returns-clause-some
returns-clause-some g c =
    told-some _ _ _ _ (session-good _ c.is_bad.ensures c.if-is_bad.false c.chart_end-events.ensures) c.say_chart.ensures.writes
    _ _ c.read_full-came.ensures.front
