-- The lowest state above a source, a target and a path's junctions, as the code finds it: up from the source, where each state
-- is tested end by end of the path. Assumes nothing.
use mathlib.Core.Path.{◌≡◌, refl, sym}
use mathlib.Core.Bool.{Bool, true, false, ◌||◌}
use mathlib.Core.List.{List, [], ◌∷◌}
use Prim.Native.Nat.{ℕ, zero, suc, ◌-◌, ◌<◌}
use native.Mathlib.Omega.{arith}
use lib.Dec.{eqb}
use borrow.Author.Tests.{eqb-true}
use Rattle.std.specs.List.{list_all}
use Rattle.rules.specs.Lists.{when◌then◌else◌, every, keep, first}
use Rattle.rules.specs.Chart.{Chart, State, Segment, deepest, parent, junction_parent, destination_kind, destination, ends_on_state, lineage, over}
use Rattle.rules.specs.Fire.{junction_parents, common, levels}
use Rattle.rules.specs.declared.numbers.StateNo.{StateNo}
use Rattle.rules.specs.declared.numbers.JunctionNo.{JunctionNo}
use Rattle.chart.specs.declared.segments.End.TheVariants.{State as ToState, Junction as ToJunction}
use Rattle.chart.specs.Read.{end_named}
use Rattle.moves.specs.Steps.{over_end, over_all}
use Rattle.moves.proofs.Follows.{less_one}

-- where a segment ends, as the code reads it
module _ (c : Chart) (a : State) (t : Segment) where
  pub on-state : {s : StateNo} → end_named (destination_kind c t) (destination c t) ≡ ToState s → true ≡ over_end c a t
  unfolding over_end when◌then◌else◌
  on-state e = by (ends_on_state c t) refl
    where
      by : (k : Bool) → ends_on_state c t ≡ k → true ≡ over_end c a t
      by true p = rw p
      by false p = let f = rw p at e in absurd (cc)

  pub on-junction : {j : JunctionNo} → end_named (destination_kind c t) (destination c t) ≡ ToJunction j
      → {p : State} → p ≡ junction_parent c j.0 → {answer : Bool} → answer ≡ over c a p → answer ≡ over_end c a t
  unfolding over_end when◌then◌else◌
  on-junction {j} e {p} q {answer} told = by (ends_on_state c t) refl
    where
      by : (k : Bool) → ends_on_state c t ≡ k → answer ≡ over_end c a t
      by true k = let f = rw k at e in absurd (cc)
      by false k = let f = rw k at e in let g : destination c t ≡ j.0 = cc in rw (k, g, ← q) told

-- whether a is over each junction of a path: end by end
module _ (c : Chart) (a : State) where
  one_end : (t : Segment) (ts : List Segment) (on-state : Bool) → ends_on_state c t ≡ on-state
      → every (over c a) (junction_parents c ts) ≡ list_all (over_end c a) ts
      → every (over c a) (junction_parents c (t ∷ ts)) ≡ list_all (over_end c a) (t ∷ ts)
  unfolding over_end junction_parents keep every when◌then◌else◌
  one_end t ts true p e = rw p e
  one_end t ts false p e = rw (p, e)

  pub end-by-end : (path : List Segment) → every (over c a) (junction_parents c path) ≡ list_all (over_end c a) path
  unfolding every keep junction_parents
  end-by-end [] = refl
  end-by-end (t ∷ ts) = one_end t ts (ends_on_state c t) refl (end-by-end ts)

-- of n states up from s the first that is the root, or passes f
unfoldable pub climbed : Chart → (State → Bool) → ℕ → State → State
climbed c f zero s = 0
climbed c f (suc n) s = when eqb s 0 || f s then s else climbed c f n (parent c s)

module _ (c : Chart) (f : State → Bool) where
  -- it is the first of a lineage that passes: where none does, the root's number is the rules' for none
  top : (s : State) (root passes : Bool) → eqb s 0 ≡ root → f s ≡ passes → first f (lineage c 0 s) ≡ climbed c f 1 s
  unfolding first lineage climbed when◌then◌else◌
  top s true true r p = rw (r, p)
  top s true false r p = rw (r, p) (sym (eqb-true s 0 r))
  top s false true r p = rw (r, p)
  top s false false r p = rw (r, p)

  below-top : (n : ℕ) (s : State) (root passes : Bool) → eqb s 0 ≡ root → f s ≡ passes
      → first f (lineage c n (parent c s)) ≡ climbed c f (suc n) (parent c s)
      → first f (lineage c (suc n) s) ≡ climbed c f (suc (suc n)) s
  unfolding first lineage climbed when◌then◌else◌
  below-top n s true true r p up = rw (r, p)
  below-top n s true false r p up = rw (r, p) (sym (eqb-true s 0 r))
  below-top n s false true r p up = rw (r, p)
  below-top n s false false r p up = rw (r, p) up

  pub first-climbed : (n : ℕ) (s : State) → first f (lineage c n s) ≡ climbed c f (suc n) s
  first-climbed zero s = top s (eqb s 0) (f s) refl refl
  first-climbed (suc n) s = below-top n s (eqb s 0) (f s) refl refl (first-climbed n (parent c s))

  one-up : (left : ℕ) (at : State) → 0 < left → climbed c f left at ≡ (when eqb at 0 || f at then at else climbed c f (left - 1) (parent c at))
  unfolding climbed
  one-up zero at h = absurd (omega arith)
  one-up (suc n) at h = rw less_one

  module _ (left : ℕ) (at : State) {was : State} (still : was ≡ climbed c f left at) where
    pub climbed-all : left ≡ 0 → 0 ≡ was
    unfolding climbed
    climbed-all e = rw (still, e)

    module _ (more : 0 < left) where
      pub climbed-here : eqb at 0 || f at ≡ true → at ≡ was
      unfolding when◌then◌else◌
      climbed-here p = rw (still, one-up left at more, p)

      pub climbed-on : eqb at 0 || f at ≡ false → {next : State} → next ≡ parent c at → was ≡ climbed c f (left - 1) next
      unfolding when◌then◌else◌
      climbed-on p q = rw (still, one-up left at more, p, q)

pub common-climbed : (c : Chart) (source target : State) (path : List Segment)
    → common c source target path ≡ climbed c (over_all c target path) levels source
unfolding common over_all
common-climbed c source target path = first-climbed c (over_all c target path) deepest source
