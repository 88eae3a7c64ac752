-- The tree of states: what is below a state, how deep a state is, and that to be over a state is to have it below, or to be it.
-- Assumes nothing.
use mathlib.Core.Path.{◌≡◌, refl, sym, subst}
use mathlib.Core.Logic.{◌⊎◌, inl, inr}
use mathlib.Core.Bool.{true, false}
use mathlib.Core.List.Memᴰ
use Prim.Native.Nat.{ℕ, zero, suc, ◌≤◌, ◌<◌}
use native.Mathlib.Omega.{arith}
use lib.Dec.{eqb}
use borrow.Author.Tests.{ne_eqb, eqb-false}
use Rattle.rules.specs.Lists.{any, is_in}
use Rattle.rules.specs.Chart.{State, Chart, states, deepest, parent, lineage, over}
use Rattle.rules.proofs.Laws.{clash, or_no, if-false}
use Rattle.rules.proofs.Members.{Mem, is_in-mem, mem-is_in, else-mem, mem-else}
use Rattle.rules.proofs.Taken.{Child, Tree}

-- x is k, or is below k
pub data Below (c : Chart) (k : State) : State → Type 0 where
  here : Below c k k
  under : {x : State} → 0 < x → x < states c → Below c k (parent c x) → Below c k x

-- a state is a child of its parent
pub child-of-parent : {c : Chart} {k : State} → 0 < k → k < states c → Child c (parent c k) k
child-of-parent p h = record { above = p; state = h; of = refl }

-- s is at least n deep
abbrev pub Deep : Chart → ℕ → State → Type 0
Deep c zero s = Unit {0}
Deep c (suc n) s = is_in 0 (lineage c n s) ≡ false

module _ (c : Chart) (tr : Tree c) where
  pub below-le : {k x : State} → Below c k x → k ≤ x
  below-le here = omega arith
  below-le (under {x = x} p h b) = let l = below-le b in let u = tr.up x h p in omega arith

  pub below-trans : {k j x : State} → Below c k j → Below c j x → Below c k x
  below-trans a here = a
  below-trans a (under p h b) = under p h (below-trans a b)

  pub child-below : {s k : State} → Child c s k → Below c s k
  child-below {s} ch = under ch.above ch.state (subst (λ (p : State). Below c s p) (sym ch.of) here)

  pub child-more : {s k : State} → Child c s k → s < k
  child-more {s} {k} ch = let u = tr.up k ch.state ch.above in omega arith

  -- of two children neither is below the other
  pub sibling : {s j k : State} → Child c s j → Child c s k → (k ≡ j → ⊥) → Below c j k → ⊥
  sibling a b d here = d refl
  sibling a b d (under p h l) = let g = below-le l in let u = child-more a in omega arith

  pub low : {x : State} → x < states c → x < 64
  low h = omega arith

  pub deep-child : (n : ℕ) {s k : State} → Deep c n s → Child c s k → Deep c (suc n) k
  unfolding is_in any lineage
  deep-child zero {s} {k} d ch = or_no (eqb 0 k) _ (ne_eqb 0 k (λ q. omega arith)) refl
  deep-child (suc n) {s} {k} d ch =
      or_no (eqb 0 k) _ (ne_eqb 0 k (λ q. omega arith))
      (rw (if-false (eqb k 0) _ _ (ne_eqb k 0 (λ q. omega arith)), ch.of) d)

  -- no state is 9 deep
  pub deep-end : (n : ℕ) (s : State) → n ≡ 9 → s < states c → Deep c n s → ⊥
  unfolding over
  deep-end n s e h d = clash (tr.depth s h) (rw e at d)

  -- to be over a state is to have it below, or to be it
  lineage-below : (n : ℕ) (x : State) → x < states c → {k : State} → Mem k (lineage c n x) → Below c k x
  unfolding lineage
  lineage-below zero x h m = rw (Memᴰ.eq_of_singleton m) here
  lineage-below (suc n) x h {k} m =
      elim (Memᴰ.cases_cons m) [
        | inl e ↦ rw e here
        | inr m ↦
            let (z, i) = else-mem (eqb x 0) m in
            let z' : 0 < x = omega (arith, eqb-false x 0 z) in
            let up = tr.up x h z' in
            under z' h (lineage-below n (parent c x) (omega arith) i)
      ]

  pub over_below : {k x : State} → x < states c → over c k x ≡ true → Below c k x
  unfolding over
  over_below {k} {x} h e = lineage-below deepest x h (is_in-mem k (lineage c deepest x) e)

  -- a line that comes to the root passes whatever is above
  below-lineage : (n : ℕ) {k x : State} → Below c k x → Mem 0 (lineage c n x) → Mem k (lineage c n x)
  unfolding lineage
  below-lineage zero here r = Memᴰ.head refl
  below-lineage (suc n) here r = Memᴰ.head refl
  below-lineage zero (under {x = x} z h b) r = let e = Memᴰ.eq_of_singleton r in absurd (omega arith)
  below-lineage (suc n) (under {x = x} z h b) r =
      elim (Memᴰ.cases_cons r) [
        | inl e ↦ absurd (omega arith)
        | inr i ↦ let (q, j) = else-mem (eqb x 0) i in Memᴰ.tail (mem-else (eqb x 0) q (below-lineage n b j))
      ]

  pub below-over : {k x : State} → x < states c → Below c k x → over c k x ≡ true
  unfolding over
  below-over {k} {x} h b = mem-is_in k (lineage c deepest x) (below-lineage deepest b (is_in-mem 0 (lineage c deepest x) (tr.depth x h)))

  -- of two states above a third one is above the other
  pub comparable : {a b x : State} → Below c a x → Below c b x → Below c a b ⊎ Below c b a
  comparable here q = inr q
  comparable (under z h p) here = inl (under z h p)
  comparable (under z h p) (under z' h' q) = comparable p q
