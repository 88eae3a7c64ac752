-- A list of segments by its first: the first of those that start at a place starts there, so that the rest of its list is
-- the rest of these. Assumes nothing.
use mathlib.Core.Path.{◌≡◌, refl, ◌∙◌}
use mathlib.Core.Bool.{Bool, true, false}
use Prim.Native.Nat.{ℕ, zero, suc, ◌+◌, ◌-◌}
use native.Mathlib.Omega.{arith}
use borrow.Author.Tests.{eqb-true}
use Rattle.std.specs.Prelude.{Option}
use Rattle.rules.specs.Chart.{Chart, State, Junction, Segment, segments, source_kind, source, outer, inner, from_junction}
use Rattle.rules.specs.declared.numbers.SegmentNo.{SegmentNo}
use Rattle.rules.proofs.Laws.{both}
use Rattle.chart.specs.Places.{header_of}
use Rattle.chart.specs.Read.{starts_in, starting_from, first_segment}
use Rattle.chart.proofs.Own.{own-outer, own-inner, own-own}
use Rattle.chart.proofs.Ranges.{keep-end, keep-pass, keep-skip}
use Rattle.engine.specs.Told.{later, list_of}

module _ (c : Chart) (k s : ℕ) where
  starts-there : (t : Segment) → starts_in c (header_of c) k s t ≡ true → later c t ≡ starting_from c (header_of c) k s (t + 1)
  unfolding later
  starts-there t q =
      let same = both _ _ q in
      rw (eqb-true (source_kind c t) k same.0, eqb-true (source c t) s same.1)

  from-here : (n a : ℕ) → segments c - a ≡ n → (b : Bool) → starts_in c (header_of c) k s a ≡ b
      → list_of c (first_segment (starting_from c (header_of c) k s a)) ≡ starting_from c (header_of c) k s a
  unfolding starting_from first_segment list_of
  from-here zero a e b q = rw (keep-end (starts_in c (header_of c) k s) a (segments c) (omega arith))
  from-here (suc n) a e true q =
      rw (keep-pass (starts_in c (header_of c) k s) a (segments c) (omega arith) q, starts-there a q)
  from-here (suc n) a e false q =
      rw (keep-skip (starts_in c (header_of c) k s) a (segments c) (omega arith) q) (from-here n (a + 1) (omega arith) _ refl)

  list-of-first : (a : ℕ) {first : Option SegmentNo} → first ≡ first_segment (starting_from c (header_of c) k s a)
      → list_of c first ≡ starting_from c (header_of c) k s a
  list-of-first a is = rw is (from-here (segments c - a) a refl _ refl)

-- the lists that the code takes up: an edge of a state, a junction's, and the rest of the one that a segment stands in
module _ (c : Chart) {first : Option SegmentNo} where
  pub outer-list : (p : State) → first ≡ first_segment (starting_from c (header_of c) 0 p 0) → list_of c first ≡ outer c p
  outer-list p is = list-of-first c 0 p 0 is ∙ own-outer c p

  pub inner-list : (p : State) → first ≡ first_segment (starting_from c (header_of c) 1 p 0) → list_of c first ≡ inner c p
  inner-list p is = list-of-first c 1 p 0 is ∙ own-inner c p

  pub junction-list : (j : Junction) → first ≡ first_segment (starting_from c (header_of c) 2 j 0) → list_of c first ≡ from_junction c j
  junction-list j is = list-of-first c 2 j 0 is ∙ own-own c j

  pub later-list : (t : Segment) → first ≡ first_segment (starting_from c (header_of c) (source_kind c t) (source c t) (t + 1))
      → list_of c first ≡ later c t
  unfolding later
  later-list t is = list-of-first c _ _ _ is
