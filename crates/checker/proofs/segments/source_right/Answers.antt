-- Each source that was read is tested as the rules ask of its kind and number. Assumes nothing.
use Rattle.checker.proofs.Ends.{by-source}
use Rattle.checker.proofs.segments.source_right.Goals as goal

pub returns-in-Some-Outer : goal.returns-in-Some-Outer
returns-in-Some-Outer c = by-source _ _ (c.source.ensures) (rw (c.in-Some-Outer.is, c.in-Some-Outer.field-0-is) c.state_end.ensures)

pub returns-in-Some-Inner : goal.returns-in-Some-Inner
returns-in-Some-Inner c = by-source _ _ (c.source.ensures) (rw (c.in-Some-Inner.is, c.in-Some-Inner.field-0-is) c.state_end-in-Some-Inner.ensures)

pub returns-in-Some-Junction : goal.returns-in-Some-Junction
returns-in-Some-Junction c = by-source _ _ c.source.ensures (rw (c.in-Some-Junction.is, c.in-Some-Junction.field-0-is) c.junction_end.ensures)

pub returns-in-None : goal.returns-in-None
returns-in-None c = by-source _ _ c.source.ensures (rw c.in-None.is)
