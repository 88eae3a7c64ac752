-- The rest of the byte of the first state, and the whole bytes after it. Assumes nothing.
use mathlib.Core.Path.{refl, sym, ◌∙◌}
use borrow.Author.Tests.{eq-eqb, ne_eqb}
use Rattle.rules.specs.Chart.{most_states}
use Rattle.chart.proofs.Ranges.{every-end}
use Rattle.image.proofs.Zeros.{from-bit}
use Rattle.image.proofs.rest.inactive.Goals as goal

pub returns-then-from-ge-MOST_STATES : goal.returns-then-from-ge-MOST_STATES
returns-then-from-ge-MOST_STATES c = sym (every-end _ c.args.from most_states c.if-from-ge-MOST_STATES.true)

pub returns-then-rest-eq0 : goal.returns-then-rest-eq0
returns-then-rest-eq0 c = rw (eq-eqb _ _ c.if-rest-eq0.true) at
    (from-bit c.args.image.now (λ i. (c.type_inv.image i).fits) c.args.from c.if-from-ge-MOST_STATES.false c.at.ensures c.zeros_between.ensures)

pub returns-else-rest-eq0 : goal.returns-else-rest-eq0
returns-else-rest-eq0 c = ne_eqb _ _ c.if-rest-eq0.false ∙ (rw (ne_eqb _ _ c.if-rest-eq0.false) at
    (from-bit c.args.image.now (λ i. (c.type_inv.image i).fits) c.args.from c.if-from-ge-MOST_STATES.false c.at.ensures refl))
