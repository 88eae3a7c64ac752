-- Where a segment starts and ends, and what it counts, as the code read it. Assumes nothing.
use mathlib.Core.Path.{◌≡◌, refl, ap, ◌∙◌}
use mathlib.Core.Bool.{Bool, true, false, ◌&&◌}
use mathlib.Core.Bool as B
use mathlib.Core.List.{List}
use Prim.Native.Nat.{ℕ, ◌+◌, ◌<◌, ◌≤◌}
use native.Mathlib.Omega.{arith}
use lib.Dec.{eqb}
use lib.ListN.{get_or}
use borrow.Author.Tests.{eqb-true, eq-eqb, le-ltb, lt-ltb}
use Rattle.std.specs.Prelude.{Option, Some, None}
use Rattle.rules.specs.Lists.{when◌then◌else◌}
use Rattle.rules.specs.Chart.{Chart, Block, Segment, junctions, source_kind, source, destination_kind, destination, ends_on_state, condition, condition_action, starts_at}
use Rattle.rules.specs.declared.numbers.StateNo.{StateNo}
use Rattle.rules.specs.declared.numbers.JunctionNo.{JunctionNo}
use Rattle.chart.specs.Read.{block_of, source_named, end_named, kind_of, number_of}
use Rattle.chart.specs.declared.blocks.Block.{Block as CodeBlock}
use Rattle.chart.specs.declared.segments.Source.{Source}
use Rattle.chart.specs.declared.segments.Source.TheVariants.{Outer, Inner, Junction}
use Rattle.chart.specs.declared.segments.End.{End}
use Rattle.chart.specs.declared.segments.End.TheVariants.{State}
use Rattle.chart.specs.declared.segments.End.TheVariants as ends
use Rattle.bound.specs.Sums.{capped, weight_on}
use Rattle.bound.specs.Flags.{is_flagged, leads_on, led_to}

-- of a kind and a number that name a junction, and of those that name something else
pub other-kind : (k n : ℕ) {s : Option Source} → s ≡ source_named k n → ((j : JunctionNo) → s ≡ Some (Junction j) → ⊥)
    → eqb k 2 ≡ false
unfolding when◌then◌else◌
other-kind k n {s} e other = by (eqb k 2) refl
  where
    by : (t : Bool) → eqb k 2 ≡ t → eqb k 2 ≡ false
    by true p = absurd (other (record { 0 = n }) (e ∙ rw (eqb-true k 2 p)))
    by false p = p

pub junction-kind : (k n : ℕ) {s : Option Source} {j : JunctionNo} → s ≡ source_named k n → s ≡ Some (Junction j)
    → (eqb k 2 ≡ true) × (j.0 ≡ n)
unfolding when◌then◌else◌
junction-kind k n {s} {j} e i = by (eqb k 0) (eqb k 1) (eqb k 2) refl refl refl
  where
    by : (t u v : Bool) → eqb k 0 ≡ t → eqb k 1 ≡ u → eqb k 2 ≡ v → (eqb k 2 ≡ true) × (j.0 ≡ n)
    by true u v p q r = (cc, cc)
    by false true v p q r = (cc, cc)
    by false false true p q r = (r, cc)
    by false false false p q r = (cc, cc)

module _ (c : Chart) (t : Segment) where
  module _ {s : Option Source} (read : s ≡ source_named (source_kind c t) (source c t)) where
    pub starts-elsewhere : ((j : JunctionNo) → s ≡ Some (Junction j) → ⊥) → eqb (source_kind c t) 2 ≡ false
    starts-elsewhere = other-kind (source_kind c t) (source c t) read

    pub starts-on : {o : Source} {j : JunctionNo} → s ≡ Some o → o ≡ Junction j → (eqb (source_kind c t) 2 ≡ true) × (j.0 ≡ source c t)
    starts-on i k = junction-kind (source_kind c t) (source c t) read (i ∙ ap Some k)

    -- it starts at a source exactly where that was read
    pub starts-there : (o : Source) → s ≡ Some o → starts_at c (kind_of o) (number_of o) t ≡ true
    unfolding when◌then◌else◌ starts_at
    starts-there o i = by o i (eqb (source_kind c t) 0) (eqb (source_kind c t) 1) (eqb (source_kind c t) 2) refl refl refl
      where
        by : (p : Source) → s ≡ Some p → (x y z : Bool) → eqb (source_kind c t) 0 ≡ x → eqb (source_kind c t) 1 ≡ y → eqb (source_kind c t) 2 ≡ z
            → starts_at c (kind_of p) (number_of p) t ≡ true
        by (Outer m) q true y z e f g = let n : source c t ≡ m.0 = cc in rw (e, n, eq-eqb m.0 m.0 refl)
        by (Outer m) q false true z e f g = cc
        by (Outer m) q false false true e f g = cc
        by (Outer m) q false false false e f g = cc
        by (Inner m) q true y z e f g = cc
        by (Inner m) q false true z e f g = let n : source c t ≡ m.0 = cc in rw (f, n, eq-eqb m.0 m.0 refl)
        by (Inner m) q false false true e f g = cc
        by (Inner m) q false false false e f g = cc
        by (Junction m) q true y z e f g = cc
        by (Junction m) q false true z e f g = cc
        by (Junction m) q false false true e f g = let n : source c t ≡ m.0 = cc in rw (g, n, eq-eqb m.0 m.0 refl)
        by (Junction m) q false false false e f g = cc

    pub starts-not-there : (o : Source) → (s ≡ Some o → ⊥) → starts_at c (kind_of o) (number_of o) t ≡ false
    unfolding when◌then◌else◌ starts_at
    starts-not-there o other = by (eqb (source_kind c t) (kind_of o)) (eqb (source c t) (number_of o)) refl refl
      where
        same : (p : Source) → source_kind c t ≡ kind_of p → source c t ≡ number_of p → s ≡ Some p
        same (Outer m) e f = read ∙ rw (e, f)
        same (Inner m) e f = read ∙ rw (e, f)
        same (Junction m) e f = read ∙ rw (e, f)

        by : (x y : Bool) → eqb (source_kind c t) (kind_of o) ≡ x → eqb (source c t) (number_of o) ≡ y
            → eqb (source_kind c t) (kind_of o) && eqb (source c t) (number_of o) ≡ false
        by true true e f = absurd (other (same o (eqb-true _ _ e) (eqb-true _ _ f)))
        by true false e f = rw (e, f)
        by false y e f = rw e

  -- where it ends, as it was read
  module _ {d : End} (read : d ≡ end_named (destination_kind c t) (destination c t)) where
    pub ends-there : {m : StateNo} → d ≡ State m → ends_on_state c t ≡ true
    unfolding when◌then◌else◌
    ends-there {m} i = by (ends_on_state c t) refl
      where
        by : (b : Bool) → ends_on_state c t ≡ b → ends_on_state c t ≡ true
        by true p = p
        by false p = cc

    pub ends-on : {j : JunctionNo} → d ≡ ends.Junction j → (ends_on_state c t ≡ false) × (j.0 ≡ destination c t)
    unfolding when◌then◌else◌
    ends-on {j} i = by (ends_on_state c t) refl
      where
        by : (b : Bool) → ends_on_state c t ≡ b → (ends_on_state c t ≡ false) × (j.0 ≡ destination c t)
        by true p = (cc, cc)
        by false p = (p, cc)

  -- what it counts, with its condition and its action read
  module _ {a b : CodeBlock} (tested : block_of a ≡ condition c t) (acted : block_of b ≡ condition_action c t) (sums : List ℕ) where
    own-counts : (a.count ≡ (condition c t).count) × (b.count ≡ (condition_action c t).count)
    own-counts = (ap (λ (k : Block). k.count) tested, ap (λ (k : Block). k.count) acted)

    pub weighed-there : a.count < 256 → b.count < 256 → ends_on_state c t ≡ true → 1 + a.count + b.count ≡ capped (weight_on c sums t)
    unfolding weight_on when◌then◌else◌
    weighed-there x y on = rw on (omega (arith, own-counts.0, own-counts.1))

    pub weighed-on : {j r : ℕ} → (ends_on_state c t ≡ false) × (j ≡ destination c t) → r ≡ capped (1 + a.count + b.count + get_or sums j 0)
        → r ≡ capped (weight_on c sums t)
    unfolding weight_on when◌then◌else◌
    weighed-on on q = rw (on.0, ← own-counts.0, ← own-counts.1, ← on.1) q

-- where it leads on to
module _ (c : Chart) (t : Segment) (here : List Bool) where
  pub no-junction : eqb (source_kind c t) 2 ≡ false → None ≡ led_to c here t
  unfolding leads_on when◌then◌else◌
  no-junction e = rw e

  pub on-state : ends_on_state c t ≡ true → None ≡ led_to c here t
  unfolding leads_on when◌then◌else◌
  on-state e = rw (e, B.and-false (eqb (source_kind c t) 2 && is_flagged here (source c t)))

  module _ {i : ℕ} (on : (eqb (source_kind c t) 2 ≡ true) × (i ≡ source c t)) where
    pub not-flagged : is_flagged here i ≡ false → None ≡ led_to c here t
    unfolding leads_on when◌then◌else◌
    not-flagged n = rw (on.0, ← on.1, n)

    module _ {j : JunctionNo} (to : (ends_on_state c t ≡ false) × (j.0 ≡ destination c t)) where
      pub past-junctions : junctions c ≤ j.0 → None ≡ led_to c here t
      unfolding leads_on when◌then◌else◌
      past-junctions n = rw (← to.1, le-ltb j.0 (junctions c) n, B.and-false (eqb (source_kind c t) 2 && is_flagged here (source c t) && B.not (ends_on_state c t)))

      pub flagged-on : is_flagged here i ≡ true → j.0 < junctions c → Some j ≡ led_to c here t
      unfolding leads_on when◌then◌else◌
      flagged-on f n = rw (on.0, ← on.1, f, to.0, ← to.1, lt-ltb j.0 (junctions c) n)
