-- `entering::chosen` meets its contract: the one on the way where there is one, else the recorded one unless it is 0, else
-- initial. Assumes nothing.
use Rattle.moves.specs.Steps.{chosen_child}
use Rattle.moves.proofs.Enters.{named-one, named-none, this-one, next_one}
use Rattle.moves.proofs.entering.chosen.Goals as goal

pub returns-in-Some : goal.returns-in-Some
unfolding chosen_child
returns-in-Some c = named-one _ _ c.in-Some.ensures

pub returns-then-recorded-ne0 : goal.returns-then-recorded-ne0
unfolding chosen_child
returns-then-recorded-ne0 c = rw (named-none _ _ c.in_default.ensures) (this-one _ _ c.recorded-recorded.ensures c.if-recorded-ne0.true)

pub returns : goal.returns
unfolding chosen_child
returns c = rw (named-none _ _ c.in_default.ensures, next_one _ c.recorded-recorded.ensures c.if-recorded-ne0.false) c.initial.ensures
