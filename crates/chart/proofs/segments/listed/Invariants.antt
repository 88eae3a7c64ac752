-- The loop's invariant: the place is that of the segment at hand, and the segments from the start on that have the two bytes are
-- those from here on. Assumes nothing.
use mathlib.Core.Path.{◌≡◌}
use Prim.Native.Nat.{◌+◌, ◌/◌, ◌%◌}
use Rattle.rules.specs.Lists.{range, keep}
use Rattle.chart.specs.Places.{segment_place}
use Rattle.chart.specs.Read.{starts_in}
use Rattle.chart.proofs.segments.listed.Given as goal

abbrev pub invariant-loop-t : goal.invariant-loop-t
invariant-loop-t l =
    let has = starts_in l.chart l.fn.h (l.source % 256) (l.source / 256) in
    (l.place ≡ segment_place l.fn.h l.t + 2) × (keep has (range l.fn.from l.t-end) ≡ keep has (range l.t l.t-end))
