-- The loop's invariant: the items before this one stand behind what was there. Assumes nothing.
use mathlib.Core.Path.{◌≡◌}
use mathlib.Core.List.{◌++◌}
use Rattle.rules.specs.Session.{items_in}
use Rattle.session.specs.Said.{spaced}
use Rattle.session.proofs.lines.Line.items.Given as goal

abbrev pub invariant-loop-i : goal.invariant-loop-i
invariant-loop-i l = l.self ≡ l.initial.self ++ spaced (items_in l.i l.trace)
