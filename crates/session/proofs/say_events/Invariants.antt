-- The loop's invariant: what the events from here on leave, of the board and the trace as they are, is what they all leave of
-- the first; and what was written, with the lines of the events from here on, is the whole. Assumes nothing.
use Rattle.std.proofs.Common.{length, ◌+◌, ◌≡◌, ◌≤◌}
use Rattle.std.specs.Slice.Iter.{chunks_rest, chunks_size}
use Rattle.rules.specs.Session.{event_lines}
use Rattle.session.specs.Said.{after_events}
use Rattle.session.proofs.Written.{Written}
use Rattle.session.proofs.say_events.Given as goal

abbrev pub invariant-loop-record : goal.invariant-loop-record
invariant-loop-record g l = record {
  can : (goal.iterator-loop-record g).can_next l.record-iterator;
  ends : (goal.iterator-loop-record g).is_finite l.record-iterator;
  size : chunks_size l.record-iterator ≡ 3;
  few : l.said + length (chunks_rest l.record-iterator) ≤ length l.events;
  leaves : after_events l.chart l.board l.trace l.said (chunks_rest l.record-iterator) ≡ after_events l.chart l.initial.board l.initial.trace 0 l.events;
  writes : Written l.initial.out l.out (event_lines l.chart l.initial.board l.initial.trace l.events) (event_lines l.chart l.board l.trace (chunks_rest l.record-iterator));
}
