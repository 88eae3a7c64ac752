-- The ends of a segment. What the code tests of an end that it read is what the rules ask of the end's kind and number: by
-- cases on the kind, each of which names one end, and every other none. Assumes nothing.
use mathlib.Core.Path.{◌≡◌, refl, ap, ◌∙◌}
use mathlib.Core.Bool.{Bool, true, false, ◌&&◌}
use Prim.Native.Nat.{ℕ}
use native.Mathlib.Omega.{arith}
use lib.Dec.{eqb, ltb}
use Rattle.std.proofs.Common.{Option, Some, None}
use borrow.Author.Tests.{eqb-true, eqb-false, le-ltb}
use Rattle.rules.specs.Lists.{when◌then◌else◌}
use Rattle.rules.specs.Chart.{Chart, Segment, states, junctions, source_kind, source, destination_kind, destination}
use Rattle.rules.specs.Accept.{end_right}
use Rattle.chart.specs.Read.{source_named, destination_named}
use Rattle.chart.specs.declared.segments.Source.{Source}
use Rattle.chart.specs.declared.segments.Source.TheVariants as a_source
use Rattle.chart.specs.declared.segments.End.{End}
use Rattle.chart.specs.declared.segments.End.TheVariants as an_end

module _ (c : Chart) where
  -- what the code tests
  abbrev state_end : ℕ → Bool
  state_end n = ltb 0 n && ltb n (states c)

  abbrev pub source_test : Option Source → Bool
  source_test (Some (a_source.Outer s)) = state_end s.0
  source_test (Some (a_source.Inner s)) = state_end s.0
  source_test (Some (a_source.Junction j)) = ltb j.0 (junctions c)
  source_test None = false

  abbrev pub destination_test : Option End → Bool
  destination_test (Some (an_end.State s)) = state_end s.0
  destination_test (Some (an_end.Junction j)) = ltb j.0 (junctions c)
  destination_test None = false

  source-cases : (k n : ℕ) (t u v : Bool) → eqb k 0 ≡ t → eqb k 1 ≡ u → eqb k 2 ≡ v
      → source_test (source_named k n) ≡ end_right c 2 k n
  unfolding end_right when◌then◌else◌
  source-cases k n true u v p q r = rw (eqb-true k 0 p)
  source-cases k n false true v p q r = rw (eqb-true k 1 q)
  source-cases k n false false true p q r = rw (eqb-true k 2 r)
  source-cases k n false false false p q r =
      let a = eqb-false k 0 p in
      let b = eqb-false k 1 q in
      rw (p, q, r, le-ltb k 2 (omega arith))

  destination-cases : (k n : ℕ) (t u : Bool) → eqb k 0 ≡ t → eqb k 1 ≡ u
      → destination_test (destination_named k n) ≡ end_right c 1 k n
  unfolding end_right when◌then◌else◌
  destination-cases k n true u p q = rw (eqb-true k 0 p)
  destination-cases k n false true p q = rw (eqb-true k 1 q)
  destination-cases k n false false p q =
      let a = eqb-false k 0 p in rw (p, q, le-ltb k 1 (omega arith))

  -- tested of the end that was read: what the rules ask
  pub by-source : (t : Segment) {e : Option Source} {tested : Bool} → e ≡ source_named (source_kind c t) (source c t)
      → tested ≡ source_test e → tested ≡ end_right c 2 (source_kind c t) (source c t)
  by-source t q r = r ∙ ap source_test q ∙ source-cases (source_kind c t) (source c t) _ _ _ refl refl refl

  pub by-destination : (t : Segment) {e : Option End} {tested : Bool} → e ≡ destination_named (destination_kind c t) (destination c t)
      → tested ≡ destination_test e → tested ≡ end_right c 1 (destination_kind c t) (destination c t)
  by-destination t q r = r ∙ ap destination_test q ∙ destination-cases (destination_kind c t) (destination c t) _ _ refl refl
