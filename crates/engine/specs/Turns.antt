-- Whose turn it is in a run, the states taken one after the other. Assumes nothing.
use Rattle.std.specs.Prelude.{ℕ, zero, suc, ◌+◌, eqb, ltb, leb, Option, Some, None}
use Rattle.rules.specs.Lists.{when◌then◌else◌, first}
use Rattle.rules.specs.Chart.{State, Chart, deepest, parent, is_one_of}
use Rattle.rules.specs.Image.{Image, is_active}
use Rattle.rules.specs.declared.headers.Header.{Header}
use Rattle.chart.specs.Read.{children_from}
use Rattle.engine.specs.declared.turns.Place.{Place}

-- a state so many levels below the one that the run began at, or none any more
pub data Whose : Type 0 where
  at : State → ℕ → Whose
  nobody : Whose

abbrev pub turn_of : Option Place → Whose
turn_of (Some p) = at p.state.0 p.depth
turn_of None = nobody

module _ (c : Chart) (h : Header) where
  -- the number from which on the children of p have their turn after its child s
  unfoldable pub next_from : State → State → ℕ
  next_from p s = when is_one_of c p then h.states else (when leb h.states s then h.states else s + 1)

  module _ (im : Image) where
    -- the first active child of p from a number on; the deepest states' children have no turn
    unfoldable pub childs_turn : ℕ → State → ℕ → State
    childs_turn depth p from = when ltb depth deepest then first (is_active im) (children_from c h from p) else 0

    -- s, or whoever follows where that is 0
    unfoldable pub turn_or : ℕ → State → Whose → Whose
    turn_or depth s w = when eqb s 0 then w else at s (depth + 1)

    -- a child of p from a number on, else one that follows p, else one that follows its parent, and so on
    unfoldable pub next_turn : ℕ → State → ℕ → Whose
    next_turn zero p from = turn_or zero (childs_turn zero p from) nobody
    next_turn (suc d) p from = turn_or (suc d) (childs_turn (suc d) p from) (next_turn d (parent c p) (next_from (parent c p) p))
