-- The two tests are the rule's, from the counts of the header. Assumes nothing.
use Rattle.rules.specs.Image.{rest_zero}
use Rattle.image.proofs.rest.is_zero.Goals as goal

pub returns-then-states_zero : goal.returns-then-states_zero
unfolding rest_zero
returns-then-states_zero c chart own = rw (← rw own at c.states_zero.ensures, c.if-states_zero.true) (rw own at c.variables_zero.ensures)

pub returns-else-states_zero : goal.returns-else-states_zero
unfolding rest_zero
returns-else-states_zero c chart own = rw (← rw own at c.states_zero.ensures, c.if-states_zero.false)
