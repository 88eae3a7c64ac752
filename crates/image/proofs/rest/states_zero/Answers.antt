-- The active bits and the records, each tested as bytes. Assumes nothing.
use mathlib.Core.Path.{refl, ◌∙◌}
use Rattle.image.proofs.Zeros.{both_zero}
use Rattle.image.proofs.rest.states_zero.Goals as goal

pub returns-then-inactive : goal.returns-then-inactive
returns-then-inactive c = rw c.if-inactive.true at (both_zero c.args.image.now c.args.from c.inactive.ensures c.zeros_between.ensures)

pub returns-else-inactive : goal.returns-else-inactive
returns-else-inactive c = c.if-inactive.false ∙ (rw c.if-inactive.false at (both_zero c.args.image.now c.args.from c.inactive.ensures refl))
