-- The walk from a state up its lineage, looking for a: what each way out shows of `was`, whether a is in the lineage at the start,
-- where that is whether a is on what is left; and what a turn leaves. Assumes nothing.
use mathlib.Core.Path.{◌≡◌, refl, sym, ◌∙◌}
use mathlib.Core.Bool.{Bool, true, false, or-false}
use Prim.Native.Nat.{ℕ, zero, suc, ◌-◌, ◌<◌}
use native.Mathlib.Omega.{arith}
use lib.Dec.{eqb}
use borrow.Author.Tests.{eqb-true, eqb-false, eq-eqb, ne_eqb}
use Rattle.rules.specs.Lists.{when◌then◌else◌, any, is_in}
use Rattle.rules.specs.Chart.{Chart, State, parent, lineage}

other-side : (a b : ℕ) (t : Bool) → eqb b a ≡ t → eqb b a ≡ eqb a b
other-side a b true p = rw (p, eq-eqb a b (sym (eqb-true b a p)))
other-side a b false p = rw (p, ne_eqb a b (λ q. eqb-false b a p (sym q)))

module _ (c : Chart) (a at : State) where
  here : (left : ℕ) → at ≡ a → true ≡ is_in a (lineage c left at)
  unfolding is_in any lineage
  here zero q = rw (eq-eqb a at (sym q))
  here (suc n) q = rw (eq-eqb a at (sym q))

  root : (left : ℕ) → 0 < left → (at ≡ a → ⊥) → at ≡ 0 → false ≡ is_in a (lineage c left at)
  unfolding is_in any lineage when◌then◌else◌
  root zero h d q = absurd (omega arith)
  root (suc n) h d q = rw (eq-eqb at 0 q, ne_eqb a at (λ e. d (sym e)))

  up : (left : ℕ) → 0 < left → (at ≡ a → ⊥) → (at ≡ 0 → ⊥) → is_in a (lineage c left at) ≡ is_in a (lineage c (left - 1) (parent c at))
  unfolding is_in any lineage when◌then◌else◌
  up zero h d r = absurd (omega arith)
  up (suc n) h d r =
      let q : suc n - 1 ≡ n = omega arith in rw (q, ne_eqb at 0 r, ne_eqb a at (λ e. d (sym e)))

  end : (left : ℕ) → left ≡ 0 → eqb at a ≡ is_in a (lineage c left at)
  unfolding is_in any lineage
  end left q = rw (q, or-false (eqb a at)) (other-side a at (eqb at a) refl)

module _ (c : Chart) (a at : State) (left : ℕ) {was : Bool} (still : was ≡ is_in a (lineage c left at)) where
  -- a itself
  pub lineage-here : at ≡ a → true ≡ was
  lineage-here q = here c a at left q ∙ sym still

  -- the root, and not a
  pub lineage-root : 0 < left → (at ≡ a → ⊥) → at ≡ 0 → false ≡ was
  lineage-root h d q = root c a at left h d q ∙ sym still

  -- neither: on to what the code reads as the parent
  pub lineage-up : 0 < left → (at ≡ a → ⊥) → (at ≡ 0 → ⊥) → (next : State) → next ≡ parent c at → (rest : ℕ) → rest ≡ left - 1
      → was ≡ is_in a (lineage c rest next)
  lineage-up h d r next q rest e = rw (q, e) (still ∙ up c a at left h d r)

  -- no further
  pub lineage-end : left ≡ 0 → eqb at a ≡ was
  lineage-end q = end c a at left q ∙ sym still
