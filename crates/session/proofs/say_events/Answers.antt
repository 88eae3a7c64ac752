-- Each record is a turn by its event's step, and another record, or the end, is the last. Assumes nothing.
use mathlib.Core.Path.{◌∙◌}
use native.Mathlib.Omega.{arith}
use Rattle.std.proofs.Common.{rules}
use Rattle.std.specs.Slice.Iter.{chunks_rest}
use Rattle.session.proofs.Order.{Cut, fewer, turn, turned-away, all_told, lines-turn, lines-away, lines-all}
use Rattle.session.proofs.Written.{more, done, ended}
use Rattle.session.proofs.say_events.Given.{Over}
use Rattle.session.proofs.say_events.Goals as goal
use Rattle.session.proofs.say_events.Goals.{In-Some}

-- the record, and the events behind it

cut : (g : Over) (c : In-Some g) → Cut (chunks_rest c.loop-record.record-iterator) c.in-Some.record.now (chunks_rest c.next.new.self)
cut g c =
    let (parts, size, some) = c.in-Some.ensures.steps.1 in
    record { parts = parts; size = rw c.loop-record.invariant.size at size; some = some }

pub returns-then-not-is_event-clause-leaves : goal.returns-then-not-is_event-clause-leaves
returns-then-not-is_event-clause-leaves g c =
    let here = cut g (goal.at.returns-then-not-is_event-clause-leaves g c).In-Some in
    turned-away c.args.chart.now c.loop-record.board c.loop-record.trace c.loop-record.said here c.is_event.ensures c.if-not-is_event.true
    ∙ c.loop-record.invariant.leaves

pub returns-then-not-is_event-clause-writes : goal.returns-then-not-is_event-clause-writes
returns-then-not-is_event-clause-writes g c =
    let here = cut g (goal.at.returns-then-not-is_event-clause-writes g c).In-Some in
    let last = lines-away c.args.chart.now c.loop-record.board c.loop-record.trace c.loop-record.said here c.is_event.ensures c.if-not-is_event.true in
    ended c.loop-record.invariant.writes _ (rw (← last) at c.say_bad.ensures)

pub loop-record-preserved : goal.loop-record-preserved
loop-record-preserved g c =
    let here = cut g (goal.at.loop-record-preserved g c).In-Some in
    record {
      can = search rules;
      ends = tt;
      size = c.in-Some.ensures.steps.0 ∙ c.loop-record.invariant.size;
      few = omega (arith, c.loop-record.invariant.few, fewer here);
      leaves =
          turn c.args.chart.now c.loop-record.board c.loop-record.trace c.loop-record.said here c.is_event.ensures c.if-not-is_event.false c.step-line.ensures
          ∙ c.loop-record.invariant.leaves;
      writes =
          more c.loop-record.invariant.writes _ _ _ (rw c.text.ensures at c.put.ensures)
          (lines-turn c.args.chart.now c.loop-record.board c.loop-record.trace c.loop-record.said here c.is_event.ensures c.if-not-is_event.false c.step-line.ensures);
    }

pub returns-clause-leaves : goal.returns-clause-leaves
returns-clause-leaves g c =
    all_told c.args.chart.now c.loop-record.board c.loop-record.trace c.loop-record.said _ c.in-None.ensures.steps.1.0
    ∙ c.loop-record.invariant.leaves

pub returns-clause-writes : goal.returns-clause-writes
returns-clause-writes g c =
    done c.loop-record.invariant.writes
    (lines-all c.args.chart.now c.loop-record.board c.loop-record.trace c.loop-record.said _ c.in-None.ensures.steps.1.0)
