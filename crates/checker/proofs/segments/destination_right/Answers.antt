-- Each destination that was read is tested as the rules ask of its kind and number. Assumes nothing.
use Rattle.checker.proofs.Ends.{by-destination}
use Rattle.checker.proofs.segments.destination_right.Goals as goal

pub returns-in-Some-State : goal.returns-in-Some-State
returns-in-Some-State c = by-destination _ _ c.destination.ensures (rw (c.in-Some-State.is, c.in-Some-State.field-0-is) c.state_end.ensures)

pub returns-in-Some-Junction : goal.returns-in-Some-Junction
returns-in-Some-Junction c = by-destination _ _ c.destination.ensures (rw (c.in-Some-Junction.is, c.in-Some-Junction.field-0-is) c.junction_end.ensures)

pub returns-in-None : goal.returns-in-None
returns-in-None c = by-destination _ _ c.destination.ensures (rw c.in-None.is)
