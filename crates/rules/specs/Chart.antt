-- The chart's bytes: tables, records, fields, and what these say of states, junctions and segments. Assumes nothing.
use Rattle.std.specs.Prelude.{Bool, ◌&&◌, List, [], ◌∷◌, map, ℕ, zero, suc, ◌+◌, ◌-◌, ◌*◌, eqb, get_or, ℤ}
use Rattle.rules.specs.Bytes.{Bytes, byte, field, signed}
use Rattle.rules.specs.Lists.{when◌then◌else◌, up_from, down_from, below, range, keep, is_in}

-- numbers of states, junctions and segments: told apart by name here, by type in the code
abbrev pub State : Type 0
State = ℕ

abbrev pub Junction : Type 0
Junction = ℕ

abbrev pub Segment : Type 0
Segment = ℕ

abbrev pub Chart : Type 0
Chart = Bytes

-- limits that more than one rule names
abbrev pub header_size : ℕ
header_size = 12

abbrev pub most_states : ℕ
most_states = 64

abbrev pub most_variables : ℕ
most_variables = 32

-- the largest depth of a state, the root's being 0
abbrev pub deepest : ℕ
deepest = 8

abbrev pub stack_places : ℕ
stack_places = 16

pub record Block : Type 0 where
  pub start : ℕ
  pub count : ℕ

pub data Op : Type 0 where
  push load store add subtract multiply quotient remainder less equal not raise send unknown : Op

unfoldable pub op_of : ℕ → Op
op_of n =
    get_or
    (push ∷ load ∷ store ∷ add ∷ subtract ∷ multiply ∷ quotient ∷ remainder ∷ less ∷ equal ∷ not ∷ raise ∷ send ∷ [])
    n unknown

pub record Instruction : Type 0 where
  pub op : Op
  pub a : ℕ
  pub b : ℤ

module _ (c : Chart) where
  -- CH: the counts
  abbrev pub states : ℕ
  states = byte c 2

  abbrev pub junctions : ℕ
  junctions = byte c 3

  abbrev pub segments : ℕ
  segments = field 2 c 4

  abbrev pub variables : ℕ
  variables = byte c 6

  abbrev pub events : ℕ
  events = byte c 7

  abbrev pub outputs : ℕ
  outputs = byte c 8

  abbrev pub instructions : ℕ
  instructions = field 2 c 10

  -- where the records stand
  abbrev pub state_at : State → ℕ
  state_at s = header_size + 16 * s

  abbrev pub junction_at : Junction → ℕ
  junction_at j = state_at states + 4 * j

  abbrev pub segment_at : Segment → ℕ
  segment_at t = junction_at junctions + 18 * t

  abbrev pub variable_at : ℕ → ℕ
  variable_at v = segment_at segments + 6 * v

  abbrev pub instruction_at : ℕ → ℕ
  instruction_at i = variable_at variables + 6 * i

  unfoldable pub total : ℕ
  total = instruction_at instructions

  abbrev pub block_at : ℕ → Block
  block_at i = record { start = field 2 c i; count = byte c (i + 2) }

  -- ST: a state's fields
  abbrev pub parent : State → State
  parent s = byte c (state_at s + 2)

  abbrev pub kind : State → ℕ
  kind s = byte c (state_at s + 3)

  abbrev pub initial : State → State
  initial s = byte c (state_at s + 4)

  abbrev pub history : State → ℕ
  history s = byte c (state_at s + 5)

  abbrev pub entry : State → Block
  entry s = block_at (state_at s + 6)

  abbrev pub during : State → Block
  during s = block_at (state_at s + 9)

  abbrev pub exit : State → Block
  exit s = block_at (state_at s + 12)

  -- JN: a junction's
  abbrev pub junction_parent : Junction → State
  junction_parent j = byte c (junction_at j + 2)

  -- TR: a segment's
  abbrev pub source_kind : Segment → ℕ
  source_kind t = byte c (segment_at t + 2)

  abbrev pub source : Segment → ℕ
  source t = byte c (segment_at t + 3)

  abbrev pub destination_kind : Segment → ℕ
  destination_kind t = byte c (segment_at t + 4)

  abbrev pub destination : Segment → ℕ
  destination t = byte c (segment_at t + 5)

  abbrev pub event : Segment → ℕ
  event t = byte c (segment_at t + 6)

  abbrev pub condition : Segment → Block
  condition t = block_at (segment_at t + 9)

  abbrev pub condition_action : Segment → Block
  condition_action t = block_at (segment_at t + 12)

  abbrev pub transition_action : Segment → Block
  transition_action t = block_at (segment_at t + 15)

  -- VA: a variable's
  abbrev pub initial_value : ℕ → ℕ
  initial_value v = field 4 c (variable_at v + 2)

  -- IN: an instruction, and those of a block
  unfoldable pub instruction : ℕ → Instruction
  instruction i =
      record
      { op = op_of (byte c (instruction_at i + 2)); a = byte c (instruction_at i + 3); b = signed 2 (field 2 c (instruction_at i + 4)) }

  unfoldable pub code : Block → List Instruction
  code k = map instruction (up_from k.start k.count)

  -- what the fields say
  abbrev pub is_one_of : State → Bool
  is_one_of s = eqb (kind s) 1

  abbrev pub keeps_history : State → Bool
  keeps_history s = eqb (history s) 1

  abbrev pub ends_on_state : Segment → Bool
  ends_on_state t = eqb (destination_kind t) 0

  -- the children of p, ascending: the root is nobody's child
  unfoldable pub children : State → List State
  children p = keep (λ s. eqb (parent s) p) (range 1 states)

  -- the same, highest number first
  unfoldable pub children_down : State → List State
  children_down p = keep (λ s. eqb (parent s) p) (down_from (states - 1))

  unfoldable pub starts_at : ℕ → ℕ → Segment → Bool
  starts_at k n t = eqb (source_kind t) k && eqb (source t) n

  -- segments in table order: of a state's outer edge, of its inner edge, of a junction
  unfoldable pub outer : State → List Segment
  outer s = keep (starts_at 0 s) (below segments)

  unfoldable pub inner : State → List Segment
  inner s = keep (starts_at 1 s) (below segments)

  unfoldable pub from_junction : Junction → List Segment
  from_junction j = keep (starts_at 2 j) (below segments)

  -- s, its parent and so on, the root last: at most n above s
  unfoldable pub lineage : ℕ → State → List State
  lineage zero s = s ∷ []
  lineage (suc n) s = s ∷ (when eqb s 0 then [] else lineage n (parent s))

  -- a is s, or is above s
  unfoldable pub over : State → State → Bool
  over a s = is_in a (lineage deepest s)
