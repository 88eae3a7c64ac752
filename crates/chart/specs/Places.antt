-- Where the records stand, by the header's counts alone. With the chart's own header these are the rules' places, by
-- computation. Assumes nothing.
use Rattle.std.specs.Prelude.{ℕ, ◌+◌, ◌*◌}
use Rattle.rules.specs.Chart.{Chart, header_size, states, junctions, segments, variables, events, outputs, instructions}
use Rattle.rules.specs.declared.headers.Header.{Header}

abbrev pub header_of : Chart → Header
header_of c =
    record
    { states = states c; junctions = junctions c; segments = segments c; variables = variables c; events = events c; outputs = outputs c; instructions = instructions c }

abbrev pub state_place : ℕ → ℕ
state_place s = header_size + 16 * s

module _ (h : Header) where
  abbrev pub junction_place : ℕ → ℕ
  junction_place j = state_place h.states + 4 * j

  abbrev pub segment_place : ℕ → ℕ
  segment_place t = junction_place h.junctions + 18 * t

  abbrev pub variable_place : ℕ → ℕ
  variable_place v = segment_place h.segments + 6 * v

  abbrev pub instruction_place : ℕ → ℕ
  instruction_place i = variable_place h.variables + 6 * i
