-- The tests in the rule's order: the first that fails refuses, and past them all it is the step on copies. Assumes nothing.
use mathlib.Core.Path.{◌≡◌, sym, ap, ◌∙◌}
use mathlib.Core.Bool.{true, false}
use native.Mathlib.Omega.{arith}
use Rattle.std.proofs.lemmas.Grind.{common_steps}
use Rattle.rules.specs.Lists.{within}
use Rattle.rules.specs.Chart.{events}
use Rattle.rules.specs.Image.{accepted}
use Rattle.rules.specs.declared.headers.Header.{Header}
use Rattle.afraulenc.proofs.Testing.{event-below, not-accepted, no-event, over-most, all_tested}
use Rattle.afraulenc.proofs.step_part.Goals as goal
use Rattle.afraulenc.proofs.step_part.Goals.{Else-not-accepted, Else-not-contains}

-- what the tests that passed have told

accepts : (c : Else-not-accepted) → accepted c.args.part.now c.args.chart.now ≡ true
accepts c = sym c.accepted.ensures ∙ c.if-not-accepted.false

in-events : (c : Else-not-contains) → within 1 (events c.args.chart.now) c.args.event ≡ true
in-events c =
    let inside : within 1 c.header-events.result.events c.args.event ≡ true = grind (arith, common_steps) in
    rw (ap (λ (h : Header). h.events) c.header-events.ensures) at inside

pub returns-then-not-accepted : goal.returns-then-not-accepted
returns-then-not-accepted c = not-accepted _ _ _ _ _ (sym c.accepted.ensures ∙ c.if-not-accepted.true)

pub returns-then-not-contains : goal.returns-then-not-contains
returns-then-not-contains c =
    let outside : within 1 c.header-events.result.events c.args.event ≡ false = grind (arith, common_steps) in
    no-event _ _ _ _ _ (accepts (goal.at.returns-then-not-contains c).Else-not-accepted)
    (rw (ap (λ (h : Header). h.events) c.header-events.ensures) at outside)

pub returns-then-allowance-gt-MOST_UNITS : goal.returns-then-allowance-gt-MOST_UNITS
returns-then-allowance-gt-MOST_UNITS c =
    let at = goal.at.returns-then-allowance-gt-MOST_UNITS c in
    over-most _ _ _ _ _ (accepts at.Else-not-accepted) (in-events at.Else-not-contains) c.if-allowance-gt-MOST_UNITS.true

pub overflow_cast-event : goal.overflow_cast-event
overflow_cast-event c =
    let below = event-below c.args.chart.now c.args.event (in-events (goal.at.overflow_cast-event c).Else-not-contains) in
    omega (arith, below, ap (λ (h : Header). h.events) c.header-events.ensures)

pub returns : goal.returns
returns c =
    let at = goal.at.returns c in
    all_tested _ _ _ _ _ (accepts at.Else-not-accepted) (in-events at.Else-not-contains) c.if-allowance-gt-MOST_UNITS.false
    c.step_on_copies.ensures
