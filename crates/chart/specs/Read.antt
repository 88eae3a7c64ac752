-- What the code's types mean, and lists from a number on. Assumes nothing.
use Rattle.std.specs.Prelude.{Bool, ◌&&◌, List, [], ◌∷◌, ℕ, ◌+◌, eqb, Option, Some, None}
use Rattle.rules.specs.Bytes.{Bytes, byte, field, signed}
use Rattle.rules.specs.Lists.{when◌then◌else◌, range, keep}
use Rattle.rules.specs.Chart.{State, Segment, Chart, Block, Op, push, load, store, add, subtract, multiply, quotient, remainder, less, equal, not, raise, send, unknown, op_of, Instruction, parent}
use Rattle.rules.specs.declared.headers.Header.{Header}
use Rattle.chart.specs.declared.blocks.Block.{Block as CodeBlock}
use Rattle.chart.specs.declared.ops.Op.{Op as CodeOp}
use Rattle.chart.specs.declared.ops.Op.TheVariants.{Push, Load, Store, Add, Subtract, Multiply, Quotient, Remainder, Less, Equal, Not, Raise, Send, Unknown}
use Rattle.chart.specs.declared.instructions.Instruction.{Instruction as CodeInstruction}
use Rattle.chart.specs.declared.kinds.Kind.{Kind}
use Rattle.chart.specs.declared.kinds.Kind.TheVariants as kind
use Rattle.chart.specs.declared.segments.Source.{Source}
use Rattle.chart.specs.declared.segments.Source.TheVariants as source
use Rattle.chart.specs.declared.segments.End.{End}
use Rattle.chart.specs.declared.segments.End.TheVariants as end
use Rattle.rules.specs.declared.numbers.StateNo.{StateNo}
use Rattle.rules.specs.declared.numbers.SegmentNo.{SegmentNo}
use Rattle.chart.specs.Places.{segment_place}

abbrev pub block_of : CodeBlock → Block
block_of k = record { start = k.start; count = k.count }

abbrev pub op_meant : CodeOp → Op
op_meant Push = push
op_meant Load = load
op_meant Store = store
op_meant Add = add
op_meant Subtract = subtract
op_meant Multiply = multiply
op_meant Quotient = quotient
op_meant Remainder = remainder
op_meant Less = less
op_meant Equal = equal
op_meant Not = not
op_meant Raise = raise
op_meant Send = send
op_meant Unknown = unknown

abbrev pub instruction_of : CodeInstruction → Instruction
instruction_of i = record { op = op_meant i.op; a = i.a; b = i.b }

-- the instruction whose record stands at a place
abbrev pub instruction_from : Bytes → ℕ → Instruction
instruction_from b i =
    record { op = op_of (byte b (i + 2)); a = byte b (i + 3); b = signed 2 (field 2 b (i + 4)) }

-- a state's kind by its number, where there is that kind
abbrev pub kind_named : ℕ → Option Kind
kind_named n = when eqb n 0 then Some kind.Leaf else when eqb n 1 then Some kind.OneOf else when eqb n 2 then Some kind.AllOf else None

-- an end of a segment, by its kind and number, where there is that kind
abbrev pub source_named : ℕ → ℕ → Option Source
source_named k n =
    when eqb k 0 then Some (source.Outer (record { 0 = n }))
    else when eqb k 1 then Some (source.Inner (record { 0 = n }))
    else when eqb k 2 then Some (source.Junction (record { 0 = n })) else None

abbrev pub destination_named : ℕ → ℕ → Option End
destination_named k n =
    when eqb k 0 then Some (end.State (record { 0 = n }))
    else when eqb k 1 then Some (end.Junction (record { 0 = n })) else None

-- the two bytes that name a source
abbrev pub kind_of : Source → ℕ
kind_of (source.Outer s) = 0
kind_of (source.Inner s) = 1
kind_of (source.Junction j) = 2

abbrev pub number_of : Source → ℕ
number_of (source.Outer s) = s.0
number_of (source.Inner s) = s.0
number_of (source.Junction j) = j.0

-- where a segment leads: every kind but a state's is a junction's
abbrev pub end_named : ℕ → ℕ → End
end_named k n = when eqb k 0 then end.State (record { 0 = n }) else end.Junction (record { 0 = n })

module _ (c : Chart) (h : Header) where
  -- the children of p from a number on
  unfoldable pub children_from : ℕ → State → List State
  children_from from p = keep (λ s. eqb (parent c s) p) (range from h.states)

  -- the segments from a number on that start there
  abbrev pub starts_in : ℕ → ℕ → Segment → Bool
  starts_in k n t = eqb (byte c (segment_place h t + 2)) k && eqb (byte c (segment_place h t + 3)) n

  unfoldable pub starting_from : ℕ → ℕ → ℕ → List Segment
  starting_from k n from = keep (starts_in k n) (range from h.segments)

-- the first of a list
unfoldable pub first_state : List State → Option StateNo
first_state [] = None
first_state (s ∷ ss) = Some (record { 0 = s })

unfoldable pub first_segment : List Segment → Option SegmentNo
first_segment [] = None
first_segment (t ∷ ts) = Some (record { 0 = t })
