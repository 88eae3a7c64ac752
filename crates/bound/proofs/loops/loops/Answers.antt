-- Each exit by what is flagged: a segment leads back, none is new in a round, or in each of the rounds one was. Assumes nothing.
use mathlib.Core.Path.{sym, ap, ◌∙◌}
use native.Mathlib.Omega.{arith}
use borrow.Author.Tests.{eqb-true, eqb-false}
use Rattle.rules.specs.declared.headers.Header.{Header}
use Rattle.bound.proofs.Reaching.{reached-start, going-start, going-by, going-known, going-more, going-back, going-on, going-out, going-past}
use Rattle.bound.proofs.loops.loops.Goals as goal
use Rattle.bound.proofs.loops.loops.Goals.{in-Some+else-eq+then-not-here-to, in-Some+else-eq+else-not-here-to, in_default}

pub loop-init : goal.loop-init
loop-init c = reached-start c.args.chart.now c.args.j.0 (omega arith)

pub loop-t-init : goal.loop-t-init
loop-t-init c = going-start c.loop.invariant

pub returns-then-eq : goal.returns-then-eq
returns-then-eq c =
    let small = rw c.bytes.ensures at c.know_bytes.ensures in
    sym (going-back c.loop-t.invariant c.led_to.ensures small (omega (arith, ap (λ (h : Header). h.segments) c.header-t-end.ensures)) c.in-Some.is
    (eqb-true _ _ (sym c.eq.ensures ∙ c.if-eq.true)))

pub loop-t-preserved : goal.loop-t-preserved
loop-t-preserved c =
    let small = rw c.bytes.ensures at c.know_bytes.ensures in
    elim c.match-led_to.branch [
      | in-Some+else-eq+then-not-here-to w ↦
          going-more c.loop-t.invariant c.led_to.ensures small (omega (arith, ap (λ (h : Header). h.segments) c.header-t-end.ensures)) w.in-Some.is
          (omega arith) w.if-not-here-to.true w.here-is w.more-is
      | in-Some+else-eq+else-not-here-to w ↦
          going-known c.loop-t.invariant c.led_to.ensures w.here-is w.more-is w.in-Some.is (eqb-false _ _ (sym w.eq.ensures ∙ w.if-eq.false))
          w.if-not-here-to.false
      | in_default w ↦ going-by c.loop-t.invariant c.led_to.ensures w.here-is w.more-is w.in_default.is
    ]

pub returns-then-not-more : goal.returns-then-not-more
returns-then-not-more c =
    let small = rw c.bytes.ensures at c.know_bytes.ensures in
    sym (going-out c.loop-t.invariant small c.if-not-more.true c.loop-t.auto.t-end c.loop-t-test.false (ap (λ (h : Header). h.segments) c.header-t-end.ensures))

pub loop-preserved : goal.loop-preserved
loop-preserved c = going-on c.loop-t.invariant c.if-not-more.false

pub returns-else-not-more : goal.returns-else-not-more
returns-else-not-more c =
    going-past c.loop-t.invariant c.if-not-more.false
    (omega (arith, ap (λ (h : Header). h.junctions) c.header-junctions.ensures))
