-- Run, search, block and send in one proof, for they call each other: the units left fall. Assumes nothing.
use mathlib.Core.Path.{refl, sym, ◌∙◌}
use mathlib.Core.Logic.{inl, inr}
use native.Mathlib.Omega.{arith}
use Rattle.std.proofs.lemmas.Result.{err_from_is_err_and}
use Rattle.rules.specs.Lists.{when◌then◌else◌}
use Rattle.rules.specs.Doing.{give, look, note, segment_passed, during_point, ◌>>◌, ◌>>=◌}
use Rattle.rules.specs.Block.{send_from}
use Rattle.rules.specs.Search.{search, tries}
use Rattle.doing.specs.Held.{noted}
use Rattle.doing.proofs.Lent.{same-itself, same-then}
use Rattle.doing.proofs.Sequels.{refused-ends, went-next}
use Rattle.engine.specs.Told.{list_of, paid_send, passing, tried, ending, followed, inside_alone, run_alone}
use Rattle.engine.proofs.Telling.{over-ends, not-over, found-refused, found-next}
use Rattle.engine.proofs.Listing.{outer-list, inner-list, junction-list, later-list}
use Rattle.engine.proofs.Units.{kept, paid-less, noted-keeps, tested-falls, acted-spends, followed-spends, run_alone-falls}
use Rattle.engine.proofs.Sending.{send-idle, send-barred, send-runs, act-empty, acting-start, acting-end, sent-refused, sent-over, sent-on, performed-refused, performed-on, full-path, within-path}
use Rattle.engine.proofs.Searching.{still-start, at-end, below-goes-on, tried-refused, tried-less, tried-abandoned, tried-failed, passed-reached, passed-ended, passed-onward}
use Rattle.engine.proofs.Running.{runs-start, runs-over, runs-refused, runs-next}
use Rattle.engine.proofs.cycle.+running_and_sending.Goals as goal
use Rattle.engine.proofs.cycle.+running_and_sending.Goals.{block-then-is_send+in_ok-send_from+else-branch, block-else-is_send+in_ok-paid, run-then-over, run-else-over}

-- A send.

pub send-returns-then-not-is_active-clause-came : goal.send-returns-then-not-is_active-clause-came
send-returns-then-not-is_active-clause-came t c = send-idle c.args.chart.now _ _ _ _ (sym c.is_active.ensures ∙ c.if-not-is_active.true)

pub send-returns-then-sends-eq0-clause-came : goal.send-returns-then-sends-eq0-clause-came
send-returns-then-sends-eq0-clause-came t c =
    send-barred c.args.chart.now _ _ _ _ (sym c.is_active.ensures ∙ c.if-not-is_active.false) c.if-sends-eq0.true

pub send-returns-clause-came : goal.send-returns-clause-came
send-returns-clause-came t c =
    c.run.ensures.came ∙ send-runs c.args.chart.now _ _ _ _ (sym c.is_active.ensures ∙ c.if-not-is_active.false) c.if-sends-eq0.false

pub send_from-returns-in_err-pay-clause-came : goal.send_from-returns-in_err-pay-clause-came
unfolding paid_send ◌>>◌
send_from-returns-in_err-pay-clause-came t c = refused-ends _ _ c.pay.ensures.came c.in_err-pay.was _ _ c.from_residual.ensures.1

pub send_from-send-requires : goal.send_from-send-requires
send_from-send-requires t c = omega (arith, paid-less _ _ c.pay.ensures.came c.in_ok-pay.was, c.decreases)

pub send_from-returns-in_err-send-clause-came : goal.send_from-returns-in_err-send-clause-came
unfolding paid_send send_from ◌>>◌
send_from-returns-in_err-send-clause-came t c =
    went-next _ _ c.pay.ensures.came c.in_ok-pay.was
    (refused-ends _ _ (rw (c.a_at-event.ensures, c.state_at-b.ensures) at c.send.ensures.came) c.in_err-send.was _ _ c.from_residual-in_err-send.ensures.1)

pub send_from-returns-clause-came : goal.send_from-returns-clause-came
unfolding paid_send send_from look give ◌>>◌ ◌>>=◌
send_from-returns-clause-came t c =
    went-next _ _ c.pay.ensures.came c.in_ok-pay.was
    (went-next _ _ (rw (c.a_at-event.ensures, c.state_at-b.ensures) at c.send.ensures.came) c.in_ok-send.was (rw c.gone.ensures))

-- A block that can send.

pub block-returns-then-block-eq0-clause-came : goal.block-returns-then-block-eq0-clause-came
block-returns-then-block-eq0-clause-came t c = act-empty c.args.chart.now _ _ _ _ c.if-block-eq0.true

pub block-loop-k-init : goal.block-loop-k-init
block-loop-k-init t c = (rw c.new-stack.ensures (acting-start _ c.code-part.ensures), same-itself)

pub block-returns-in_err-send_from-clause-came : goal.block-returns-in_err-send_from-clause-came
block-returns-in_err-send_from-clause-came t c =
    sent-refused c.loop-k.invariant.0 c.loop-k-test.true c.is_send.ensures _ c.if-is_send.true c.send_from.ensures.came c.in_err-send_from.was
    _ _ c.from_residual.ensures.1

pub block-returns-then-branch-clause-came : goal.block-returns-then-branch-clause-came
block-returns-then-branch-clause-came t c =
    sent-over c.loop-k.invariant.0 c.loop-k-test.true c.is_send.ensures _ c.if-is_send.true c.send_from.ensures.came c.in_ok-send_from.was
    c.if-branch.true

pub block-returns-in_err-paid-clause-came : goal.block-returns-in_err-paid-clause-came
block-returns-in_err-paid-clause-came t c =
    performed-refused c.loop-k.invariant.0 c.loop-k-test.true c.is_send.ensures _ c.if-is_send.false _ c.paid.ensures.came c.in_err-paid.was
    _ _ c.from_residual-in_err-paid.ensures.1

pub block-loop-k-preserved : goal.block-loop-k-preserved
block-loop-k-preserved t c =
    elim c.if-is_send.branch [
      | block-then-is_send+in_ok-send_from+else-branch w ↦
          rw (w.now-is, w.stack-is) (
            sent-on c.loop-k.invariant.0 c.loop-k-test.true c.is_send.ensures _ w.if-is_send.true w.send_from.ensures.came w.in_ok-send_from.was
                w.if-branch.false,
            same-then c.loop-k.invariant.1 w.send_from.ensures.same,
          )
      | block-else-is_send+in_ok-paid w ↦
          rw (w.now-is, w.stack-is) (
            performed-on c.loop-k.invariant.0 c.loop-k-test.true c.is_send.ensures _ w.if-is_send.false _ w.paid.ensures.came w.in_ok-paid.was,
            same-then c.loop-k.invariant.1 w.paid.ensures.same,
          )
    ]

pub block-returns-clause-came : goal.block-returns-clause-came
block-returns-clause-came t c = acting-end c.loop-k.invariant.0 c.loop-k-test.false

-- A segment that passes, and one that is tried.

pub pass-returns-in_err-note-clause-came : goal.pass-returns-in_err-note-clause-came
unfolding passing noted note ◌>>◌
pass-returns-in_err-note-clause-came t c = refused-ends _ _ c.note.ensures.came c.in_err-note.was _ _ c.from_residual.ensures.1

pub pass-block-requires : goal.pass-block-requires
pass-block-requires t c = omega (arith, noted-keeps segment_passed c.args.t.0 _ _ c.note.ensures.came c.in_ok-note.was, c.decreases)

pub pass-returns-clause-came : goal.pass-returns-clause-came
unfolding passing noted note ◌>>◌
pass-returns-clause-came t c = went-next _ _ c.note.ensures.came c.in_ok-note.was (rw c.condition_action.ensures at c.block.ensures.came)

pub attempt-returns-in_err-passes-clause-came : goal.attempt-returns-in_err-passes-clause-came
unfolding tried ◌>>=◌
attempt-returns-in_err-passes-clause-came t c = refused-ends _ _ c.passes.ensures.came c.in_err-passes.was _ _ c.from_residual.ensures.1

pub attempt-returns-then-not-branch-clause-came : goal.attempt-returns-then-not-branch-clause-came
unfolding tried when◌then◌else◌ give ◌>>=◌
attempt-returns-then-not-branch-clause-came t c = went-next _ _ c.passes.ensures.came c.in_ok-passes.was (rw c.if-not-branch.true)

pub attempt-returns-in_err-push-clause-came : goal.attempt-returns-in_err-push-clause-came
unfolding tried when◌then◌else◌ ◌>>=◌
attempt-returns-in_err-push-clause-came t c =
    went-next _ _ c.passes.ensures.came c.in_ok-passes.was
    (let p = err_from_is_err_and c.from_residual-in_err-push.result c.from_residual-in_err-push.ensures.1 in
    rw (c.if-not-branch.false, p.1, p.2, c.in_err-push.ensures.1) (full-path _ _ _ _ _ _ (omega (arith, c.in_err-push.ensures.0))))

pub attempt-pass-requires : goal.attempt-pass-requires
attempt-pass-requires t c = omega (arith, kept (tested-falls _ _ _) _ _ c.passes.ensures.came c.in_ok-passes.was, c.decreases)

pub attempt-returns-in_err-pass-clause-came : goal.attempt-returns-in_err-pass-clause-came
unfolding tried when◌then◌else◌ ◌>>=◌
attempt-returns-in_err-pass-clause-came t c =
    went-next _ _ c.passes.ensures.came c.in_ok-passes.was
    (rw c.if-not-branch.false
    (refused-ends _ _ c.pass.ensures.came c.in_err-pass.was _ _ c.from_residual-in_err-pass.ensures.1
    ∙ within-path _ _ _ _ _ _ (λ z. omega (arith, z, c.in_ok-push.ensures.0))))

pub attempt-returns-then-branch-clause-came : goal.attempt-returns-then-branch-clause-came
unfolding tried when◌then◌else◌ give ◌>>=◌
attempt-returns-then-branch-clause-came t c =
    went-next _ _ c.passes.ensures.came c.in_ok-passes.was
    (rw c.if-not-branch.false
    (went-next _ _ c.pass.ensures.came c.in_ok-pass.was (rw c.if-branch.true)
    ∙ within-path _ _ _ _ _ _ (λ z. omega (arith, z, c.in_ok-push.ensures.0))))

pub attempt-returns-clause-came : goal.attempt-returns-clause-came
unfolding tried when◌then◌else◌ give ◌>>=◌
attempt-returns-clause-came t c =
    went-next _ _ c.passes.ensures.came c.in_ok-passes.was
    (rw c.if-not-branch.false
    (went-next _ _ c.pass.ensures.came c.in_ok-pass.was (rw c.if-branch.false)
    ∙ within-path _ _ _ _ _ _ (λ z. omega (arith, z, c.in_ok-push.ensures.0))))

-- The search: the loop keeps what is still to do, and each way out of it is one of the laws of Searching.

pub search-search-init : goal.search-search-init
search-search-init t c = (rw c.requires (still-start _ _ _ _ _ _), same-itself)

pub search-loop-next-init : goal.search-loop-next-init
search-loop-next-init t c = (c.search.invariant.0, omega arith, c.search.invariant.1)

pub search-returns-in_err-attempt-clause-came : goal.search-returns-in_err-attempt-clause-came
search-returns-in_err-attempt-clause-came t c =
    tried-refused _ _ _ _ c.loop-next.invariant.0 c.in-Some.is _ c.attempt.ensures.came c.in_err-attempt.was _ _ _ c.from_residual.ensures.1

pub search-loop-next-smaller-in-Failed : goal.search-loop-next-smaller-in-Failed
search-loop-next-smaller-in-Failed t c =
    tried-less _ _ _ _ c.loop-next.invariant.0 c.in-Some.is _ c.attempt.ensures.came c.in_ok-attempt.was c.in_ok-attempt.ensures.path

pub search-loop-next-preserved-in-Failed : goal.search-loop-next-preserved-in-Failed
search-loop-next-preserved-in-Failed t c =
    let less = tried-less _ _ _ _ c.loop-next.invariant.0 c.in-Some.is _ c.attempt.ensures.came c.in_ok-attempt.was c.in_ok-attempt.ensures.path in (
      tried-failed _ _ _ _ c.loop-next.invariant.0 c.in-Some.is _ c.attempt.ensures.came c.in_ok-attempt.was c.in_ok-attempt.ensures.path
          c.in-Failed.is (later-list _ _ c.after-next.ensures),
      omega (arith, less, c.loop-next.invariant.1),
      same-then c.loop-next.invariant.2 c.attempt.ensures.same,
    )

pub search-returns-in-Abandoned-clause-came : goal.search-returns-in-Abandoned-clause-came
search-returns-in-Abandoned-clause-came t c =
    tried-abandoned _ _ _ _ c.loop-next.invariant.0 c.in-Some.is _ c.attempt.ensures.came c.in_ok-attempt.was c.in_ok-attempt.ensures.path
    c.in-Abandoned.is

pub search-returns-in-State-clause-came : goal.search-returns-in-State-clause-came
search-returns-in-State-clause-came t c =
    passed-reached _ _ _ _ c.loop-next.invariant.0 c.in-Some.is _ c.attempt.ensures.came c.in_ok-attempt.was c.in_ok-attempt.ensures.path
    c.in-Passed.is c.in-State.ensures

pub search-returns-then-is_none-clause-came : goal.search-returns-then-is_none-clause-came
search-returns-then-is_none-clause-came t c =
    passed-ended _ _ _ _ c.loop-next.invariant.0 c.in-Some.is _ c.attempt.ensures.came c.in_ok-attempt.was c.in_ok-attempt.ensures.path
    c.in-Passed.is c.in-Junction.ensures _ (junction-list _ _ c.first-next.ensures) (rw c.if-is_none.true at c.is_none.ensures)

pub search-loop-next-smaller : goal.search-loop-next-smaller
search-loop-next-smaller t c =
    tried-less _ _ _ _ c.loop-next.invariant.0 c.in-Some.is _ c.attempt.ensures.came c.in_ok-attempt.was c.in_ok-attempt.ensures.path

pub search-loop-next-preserved : goal.search-loop-next-preserved
search-loop-next-preserved t c =
    let less = tried-less _ _ _ _ c.loop-next.invariant.0 c.in-Some.is _ c.attempt.ensures.came c.in_ok-attempt.was c.in_ok-attempt.ensures.path in (
      passed-onward _ _ _ _ c.loop-next.invariant.0 c.in-Some.is _ c.attempt.ensures.came c.in_ok-attempt.was c.in_ok-attempt.ensures.path
          c.in-Passed.is c.in-Junction.ensures _ (junction-list _ _ c.first-next.ensures) (rw c.if-is_none.false at c.is_none.ensures),
      omega (arith, less, c.loop-next.invariant.1),
      same-then c.loop-next.invariant.2 c.attempt.ensures.same,
    )

pub search-returns-in_default-pop-clause-came : goal.search-returns-in_default-pop-clause-came
search-returns-in_default-pop-clause-came t c = at-end _ _ _ _ c.loop-next.invariant.0 c.in_default.is c.in_default-pop.ensures.0

pub search-search-preserved : goal.search-search-preserved
search-search-preserved t c = (
  below-goes-on _ _ _ _ c.loop-next.invariant.0 c.in_default.is _ c.in-Some-pop.ensures (later-list _ _ c.after-next-in-search.ensures),
  c.loop-next.invariant.2,
)

-- An edge of a state, and a state run by itself.

pub edge-returns-in_default-clause-came : goal.edge-returns-in_default-clause-came
unfolding followed search tries list_of ending give ◌>>=◌
edge-returns-in_default-clause-came t c = rw c.in_default.is

pub edge-returns-in_err-target-clause-came : goal.edge-returns-in_err-target-clause-came
unfolding followed list_of ◌>>=◌
edge-returns-in_err-target-clause-came t c =
    rw c.in-Some.is (found-refused _ _ _ c.search.ensures.came c.in_err-target.was _ _ c.from_residual.ensures.1)

pub edge-returns-in_err-fire-in-Reached-clause-came : goal.edge-returns-in_err-fire-in-Reached-clause-came
unfolding followed list_of ending ◌>>=◌ ◌>>◌
edge-returns-in_err-fire-in-Reached-clause-came t c =
    rw c.in-Some.is
    (found-next _ _ _ c.search.ensures.came c.in_ok-target.was
    (rw c.in-Reached.is
    (refused-ends _ _ (rw c.as_slice.ensures at c.fire.ensures.came) c.in_err-fire-in-Reached.was _ _ c.from_residual-in_err-fire-in-Reached.ensures.1)))

pub edge-returns-in_ok-fire-in-Reached-clause-came : goal.edge-returns-in_ok-fire-in-Reached-clause-came
unfolding followed list_of ending give ◌>>=◌ ◌>>◌
edge-returns-in_ok-fire-in-Reached-clause-came t c =
    rw c.in-Some.is
    (found-next _ _ _ c.search.ensures.came c.in_ok-target.was
    (rw c.in-Reached.is (went-next _ _ (rw c.as_slice.ensures at c.fire.ensures.came) c.in_ok-fire-in-Reached.was refl)))

pub edge-returns-in-Nowhere-clause-came : goal.edge-returns-in-Nowhere-clause-came
unfolding followed list_of ending give ◌>>=◌
edge-returns-in-Nowhere-clause-came t c =
    rw c.in-Some.is
    (found-next _ _ _ c.search.ensures.came c.in_ok-target.was
    (elim c.in-Nowhere.is [
      | inl nowhere ↦ rw nowhere
      | inr ended ↦ rw ended
    ]))

pub edge-returns-in-Abandoned-clause-came : goal.edge-returns-in-Abandoned-clause-came
unfolding followed list_of ending give ◌>>=◌
edge-returns-in-Abandoned-clause-came t c = rw c.in-Some.is (found-next _ _ _ c.search.ensures.came c.in_ok-target.was (rw c.in-Abandoned.is))

pub inside-returns-in_err-note-clause-came : goal.inside-returns-in_err-note-clause-came
unfolding inside_alone noted note ◌>>◌
inside-returns-in_err-note-clause-came t c = refused-ends _ _ c.note.ensures.came c.in_err-note.was _ _ c.from_residual.ensures.1

pub inside-block-requires : goal.inside-block-requires
inside-block-requires t c = omega (arith, noted-keeps during_point c.args.turn.state.0 _ _ c.note.ensures.came c.in_ok-note.was, c.decreases)

pub inside-returns-in_err-block-clause-came : goal.inside-returns-in_err-block-clause-came
unfolding inside_alone noted note ◌>>◌ ◌>>=◌
inside-returns-in_err-block-clause-came t c =
    went-next _ _ c.note.ensures.came c.in_ok-note.was
    (refused-ends _ _ (rw c.during.ensures at c.block.ensures.came) c.in_err-block.was _ _ c.from_residual-in_err-block.ensures.1)

pub inside-returns-then-branch-clause-came : goal.inside-returns-then-branch-clause-came
unfolding inside_alone noted note ◌>>◌ ◌>>=◌
inside-returns-then-branch-clause-came t c =
    went-next _ _ c.note.ensures.came c.in_ok-note.was (over-ends _ _ (rw c.during.ensures at c.block.ensures.came) c.in_ok-block.was c.if-branch.true)

pub inside-edge-requires : goal.inside-edge-requires
inside-edge-requires t c =
    omega (
      arith,
      noted-keeps during_point c.args.turn.state.0 _ _ c.note.ensures.came c.in_ok-note.was,
      kept (acted-spends _ _ _ _) _ _ c.block.ensures.came c.in_ok-block.was,
      c.decreases,
    )

pub inside-returns-clause-came : goal.inside-returns-clause-came
unfolding inside_alone noted note ◌>>◌ ◌>>=◌
inside-returns-clause-came t c =
    went-next _ _ c.note.ensures.came c.in_ok-note.was
    (not-over _ _ (rw c.during.ensures at c.block.ensures.came) c.in_ok-block.was c.if-branch.false
    (rw (inner-list _ _ c.first-inner.ensures) at c.edge.ensures.came))

pub alone-returns-in_err-pay-clause-came : goal.alone-returns-in_err-pay-clause-came
unfolding run_alone ◌>>◌
alone-returns-in_err-pay-clause-came t c = refused-ends _ _ c.pay.ensures.came c.in_err-pay.was _ _ c.from_residual.ensures.1

pub alone-edge-requires : goal.alone-edge-requires
alone-edge-requires t c = omega (arith, paid-less _ _ c.pay.ensures.came c.in_ok-pay.was, c.decreases)

pub alone-returns-in_err-edge-clause-came : goal.alone-returns-in_err-edge-clause-came
unfolding run_alone ◌>>◌ ◌>>=◌
alone-returns-in_err-edge-clause-came t c =
    went-next _ _ c.pay.ensures.came c.in_ok-pay.was
    (refused-ends _ _ (rw (outer-list _ _ c.first-outer.ensures) at c.edge.ensures.came) c.in_err-edge.was _ _ c.from_residual-in_err-edge.ensures.1)

pub alone-returns-then-branch-clause-came : goal.alone-returns-then-branch-clause-came
unfolding run_alone ◌>>◌ ◌>>=◌
alone-returns-then-branch-clause-came t c =
    went-next _ _ c.pay.ensures.came c.in_ok-pay.was
    (over-ends _ _ (rw (outer-list _ _ c.first-outer.ensures) at c.edge.ensures.came) c.in_ok-edge.was c.if-branch.true)

pub alone-inside-requires : goal.alone-inside-requires
alone-inside-requires t c =
    omega (arith, paid-less _ _ c.pay.ensures.came c.in_ok-pay.was, kept (followed-spends _ _ _ _ _) _ _ c.edge.ensures.came c.in_ok-edge.was, c.decreases)

pub alone-returns-clause-came : goal.alone-returns-clause-came
unfolding run_alone ◌>>◌ ◌>>=◌
alone-returns-clause-came t c =
    went-next _ _ c.pay.ensures.came c.in_ok-pay.was
    (not-over _ _ (rw (outer-list _ _ c.first-outer.ensures) at c.edge.ensures.came) c.in_ok-edge.was c.if-branch.false c.inside.ensures.came)

-- The run: what is left to run from a turn on is what there was to run.

pub run-loop-next-init : goal.run-loop-next-init
run-loop-next-init t c = (runs-start _, same-itself)

pub run-returns-in_err-over-clause-came : goal.run-returns-in_err-over-clause-came
run-returns-in_err-over-clause-came t c =
    runs-refused (rw c.in-Some.is at c.loop-next.invariant.0) _ c.alone.ensures.came c.in_err-over.was _ _ c.from_residual.ensures.1

pub run-loop-next-smaller : goal.run-loop-next-smaller
run-loop-next-smaller t c = kept (run_alone-falls _ _ _ _) _ _ c.alone.ensures.came c.in_ok-over.was

pub run-loop-next-preserved : goal.run-loop-next-preserved
unfolding when◌then◌else◌
run-loop-next-preserved t c = (
  runs-next (rw c.in-Some.is at c.loop-next.invariant.0) _ c.alone.ensures.came c.in_ok-over.was
      (elim c.if-over.branch [
        | run-then-over w ↦ rw (w.from-is, w.if-over.true, c.header-h.ensures)
        | run-else-over w ↦ rw (w.from-is, w.if-over.false)
      ])
      (rw (c.bytes.ensures, c.header-h.ensures, c.image.ensures) at c.next-next.ensures),
  same-then c.loop-next.invariant.1 c.alone.ensures.same,
)

pub run-returns-clause-came : goal.run-returns-clause-came
run-returns-clause-came t c = runs-over (rw c.in_default.is at c.loop-next.invariant.0)
