-- By the chart's own header, what is read is what the rules say: the places, the lists of children, and those of segments.
-- Assumes nothing.
use mathlib.Core.Path.{◌≡◌, refl}
use Prim.Native.Nat.{ℕ}
use Rattle.rules.specs.Chart.{Chart, State, Junction, Segment, instructions, state_at, junction_at, segment_at, variable_at, instruction_at, total, children, starts_at, outer, inner, from_junction}
use Rattle.chart.specs.Places.{header_of, state_place, junction_place, segment_place, variable_place, instruction_place}
use Rattle.chart.proofs.Ranges.{below-range}
use Rattle.chart.specs.Read.{children_from, starting_from}

module _ (c : Chart) where
  pub own-state : (s : State) → state_place s ≡ state_at c s
  own-state s = refl

  pub own-junction : (j : Junction) → junction_place (header_of c) j ≡ junction_at c j
  own-junction j = refl

  pub own-segment : (t : Segment) → segment_place (header_of c) t ≡ segment_at c t
  own-segment t = refl

  pub own-variable : (v : ℕ) → variable_place (header_of c) v ≡ variable_at c v
  own-variable v = refl

  pub own-instruction : (i : ℕ) → instruction_place (header_of c) i ≡ instruction_at c i
  own-instruction i = refl

  pub own-total : instruction_place (header_of c) (instructions c) ≡ total c
  unfolding total
  own-total = refl

  pub own-children : (p : State) → children_from c (header_of c) 1 p ≡ children c p
  unfolding children_from children
  own-children p = refl

  pub own-outer : (s : State) → starting_from c (header_of c) 0 s 0 ≡ outer c s
  unfolding starting_from outer starts_at
  own-outer s = rw below-range

  pub own-inner : (s : State) → starting_from c (header_of c) 1 s 0 ≡ inner c s
  unfolding starting_from inner starts_at
  own-inner s = rw below-range

  pub own-own : (j : Junction) → starting_from c (header_of c) 2 j 0 ≡ from_junction c j
  unfolding starting_from from_junction starts_at
  own-own j = rw below-range
