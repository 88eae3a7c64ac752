-- From the flags of a list's junctions segments lead on to those that one segment more leads to; and where one leads on to, as
-- the code was told. Assumes nothing.
use mathlib.Core.Path.{◌≡◌, refl, sym, ◌∙◌}
use mathlib.Core.Bool.{Bool, true, false, ◌&&◌, and-false, and_assoc, or-false}
use mathlib.Core.Bool as B
use mathlib.Core.List.{List}
use Prim.Native.Nat.{ℕ, ◌<◌}
use lib.Dec.{eqb, ltb}
use borrow.Author.Tests.{eqb-true}
use Rattle.std.specs.Prelude.{Option, Some, None}
use Rattle.rules.specs.Bytes.{byte}
use Rattle.rules.specs.Lists.{when◌then◌else◌, below, any, is_in}
use Rattle.rules.specs.Chart.{Chart, Junction, Segment, junctions, segments, source_kind, source, destination, ends_on_state, starts_at, from_junction}
use Rattle.rules.specs.Bound.{leads_to, onward}
use Rattle.rules.specs.declared.numbers.JunctionNo.{JunctionNo}
use Rattle.chart.proofs.Ranges.{is-in-keep}
use Rattle.bound.specs.Flags.{flags, leads_on, led_to}
use Rattle.bound.proofs.Anys.{any_same, any-both, any_left, any-keep, any_swap, in-below}
use Rattle.bound.proofs.Flagging.{flagged}

-- a segment's test, with the number that it leads to in the place of its destination
same_end : (d m j : ℕ) (a t : Bool) → eqb d j ≡ t → a && ltb d m && eqb d j ≡ a && ltb j m && eqb d j
same_end d m j a true p = rw (eqb-true d j p)
same_end d m j a false p = rw p (and-false (a && ltb d m) ∙ sym (and-false (a && ltb j m)))

limit-first : (a i n l e : Bool) → a && i && n && l && e ≡ l && (a && i && (n && e))
limit-first a i n false e = rw (and-false (a && i && n))
limit-first a i n true e = rw (B.and-true (a && i && n)) (and_assoc (a && i) n e)

-- the flags of a list's junctions
abbrev pub flags_of : List Junction → List Bool
flags_of is = flags (λ i. is_in i is)

module _ (c : Chart) where
  -- those that lead to j, of the segments of a list's junctions
  leads-to : (j : Junction) (is : List Junction) → any (leads_to c j) is
      ≡ any (λ t. eqb (source_kind c t) 2 && is_in (source c t) is && (B.not (ends_on_state c t) && eqb (destination c t) j)) (below (segments c))
  unfolding leads_to from_junction starts_at is_in
  leads-to j is =
      any_same _ _ (λ i. any-keep (starts_at c 2 i) (λ t. B.not (ends_on_state c t) && eqb (destination c t) j) (below (segments c))) is
      ∙ any_swap (λ i t. starts_at c 2 i t && (B.not (ends_on_state c t) && eqb (destination c t) j)) is (below (segments c))
      ∙ any_same _ _ (λ t. any-both (eqb (source_kind c t) 2) (B.not (ends_on_state c t) && eqb (destination c t) j) (eqb (source c t)) is) (below (segments c))

  module _ (bytes : (i : ℕ) → byte c i < 256) (is : List Junction) where
    one-leads : (j : Junction) (t : Segment) → leads_on c (flags_of is) t && eqb (destination c t) j
        ≡ ltb j (junctions c) && (eqb (source_kind c t) 2 && is_in (source c t) is && (B.not (ends_on_state c t) && eqb (destination c t) j))
    unfolding leads_on
    one-leads j t =
        rw (flagged (λ i. is_in i is) (source c t) (bytes _))
        (same_end (destination c t) (junctions c) j (eqb (source_kind c t) 2 && is_in (source c t) is && B.not (ends_on_state c t)) (eqb (destination c t) j) refl
        ∙ limit-first (eqb (source_kind c t) 2) (is_in (source c t) is) (B.not (ends_on_state c t)) (ltb j (junctions c)) (eqb (destination c t) j))

    pub in-onward : (j : Junction) → any (λ t. leads_on c (flags_of is) t && eqb (destination c t) j) (below (segments c)) ≡ is_in j (onward c is)
    unfolding onward
    in-onward j =
        any_same _ _ (one-leads j) (below (segments c))
        ∙ any_left (ltb j (junctions c)) _ (below (segments c))
        ∙ sym (is-in-keep (λ i. any (leads_to c i) is) j (below (junctions c)) ∙ rw (in-below j (junctions c), leads-to j is))

  module _ (here : List Bool) (t : Segment) where
    -- where it leads on to, as the code was told
    pub some-led : {to : JunctionNo} {r : Option JunctionNo} → r ≡ led_to c here t → r ≡ Some to → (leads_on c here t ≡ true) × (to.0 ≡ destination c t)
    unfolding when◌then◌else◌
    some-led {to} e i = by (leads_on c here t) refl
      where
        by : (b : Bool) → leads_on c here t ≡ b → (leads_on c here t ≡ true) × (to.0 ≡ destination c t)
        by true p = (p, cc)
        by false p = (cc, cc)

    pub none-led-to : {r : Option JunctionNo} → r ≡ led_to c here t → r ≡ None → leads_on c here t ≡ false
    unfolding when◌then◌else◌
    none-led-to e i = by (leads_on c here t) refl
      where
        by : (b : Bool) → leads_on c here t ≡ b → leads_on c here t ≡ false
        by true p = cc
        by false p = p
