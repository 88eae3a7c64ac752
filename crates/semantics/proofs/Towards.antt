-- The way to a target. 002 hands the path down from state to state; 01 asks at each one-of state which child the target is, or
-- is under. They agree, since each state of the path is above the target or is it, and no sibling of such a state is. Assumes
-- nothing.
use mathlib.Core.Path.{◌≡◌, refl, sym}
use mathlib.Core.Logic.{◌⊎◌, inl, inr}
use mathlib.Core.Bool.{false, ◌&&◌}
use mathlib.Core.List.{List, [], ◌∷◌, ◌++◌}
use Prim.Native.Nat.{ℕ, zero, suc, ◌<◌}
use native.Mathlib.Decide.{ℕ_discrete}
use native.Mathlib.Omega.{arith}
use lib.Dec.{eqb}
use borrow.Author.Tests.{eq-eqb, ne_eqb, eqb-true}
use Rattle.rules.specs.Lists.{when◌then◌else◌, every}
use Rattle.rules.specs.Chart.{State, Segment, Chart, states, deepest, parent, children, lineage, over}
use Rattle.rules.specs.Fire.{on_the_way, junction_parents, common, arena}
use Rattle.rules.proofs.Laws.{two, clash, not_yes, and_left}
use Rattle.rules.proofs.Members.{is_in-mem, mem-is_in, first-mem, first-only, first-none}
use Rattle.rules.proofs.Taken.{Child, Tree, Right, children-mem, mem-children, tree}
use Rattle.rules.proofs.Trees.{Below, here, under, below-le, below-trans, child-below, child-more, child-of-parent, sibling, over_below, below-over, comparable}
use Rattle.semantics.specs.Relation as R
use Rattle.semantics.specs.Relation.{Descent, tail, towards}

-- what is left of the path at p, where s is to be entered: the path down to s; or none, where p is not above s
abbrev pub Towards : Chart → State → State → List State → Type 0
Towards c s p h = Descent c p h s ⊎ ((h ≡ []) × (over c p s ≡ false))

module _ (c : Chart) (rt : Right c) where
  tr : Tree c
  tr = tree c rt

  -- the path from a state down to one below it
  further : {a s k : State} {h : List State} → Descent c a h s → Child c s k → Descent c a (h ++ (k ∷ [])) k
  further {s = s} {k = k} R.here ch = R.down (mem-is_in k (children c s) (mem-children c s k ch)) R.here
  further (R.down q d) ch = R.down q (further d ch)

  pub descent : {a s : State} → Below c a s → (h : List State) × Descent c a h s
  descent here = ([], R.here)
  descent (under {x = x} z h b) = let (path, d) = descent b in (path ++ (x ∷ []), further d (child-of-parent z h))

  descent-below : {a s : State} {h : List State} → Descent c a h s → Below c a s
  descent-below R.here = here
  descent-below {a} (R.down {b = b} q d) =
      let ch = children-mem c a (is_in-mem b (children c a) q) in below-trans c tr (child-below c tr ch) (descent-below d)

  module _ (s : State) (real : s < states c) where
    -- no child of p is above s, but the one on the path
    not-over : {p k : State} → Child c p k → (Below c k s → ⊥) → over c k s ≡ false
    not-over {p} {k} ch no_one = not_yes (over c k s) (λ e. no_one (over_below c tr real e))

    lone : {p q k : State} → Child c p q → Child c p k → Below c q s → Below c k s → k ≡ q
    lone {p} {q} {k} cq ck bq bk =
        elim (ℕ_discrete k q) [
          | yes e ↦ e
          | no d ↦ elim (comparable c tr bq bk)
              [ inl b ↦ absurd (sibling c tr cq ck d b) | inr b ↦ absurd (sibling c tr ck cq (λ e. d (sym e)) b) ]
        ]

    -- the path goes on: its next state is the child on the way
    pub on-way : {p q : State} {h : List State} → Towards c s p (q ∷ h)
        → (on_the_way c p s ≡ q) × Child c p q × Below c q s × Towards c s q h
    unfolding on_the_way
    on-way {p} {q} (inl (R.down i d)) =
        let ch = children-mem c p (is_in-mem q (children c p) i) in
        let bq = descent-below d in (
          first-only _ (children c p) q (mem-children c p q ch) (below-over c tr real bq)
              (λ x m e. lone ch (children-mem c p m) bq (over_below c tr real e)),
          ch,
          bq,
          inl d,
        )
    on-way (inr (e, o)) = let z : ◌≡◌ {A = ℕ} 0 1 = cc in absurd (omega arith)

    -- it has come to its end, or p is not on it: no child is
    none_over : {p k : State} → Towards c s p [] → Child c p k → over c k s ≡ false
    none_over (inl R.here) ch = not-over ch (λ b. omega (arith, below-le c tr b, child-more c tr ch))
    none_over {p} (inr (e, o)) ch = not-over ch (λ b. clash (below-over c tr real (below-trans c tr (child-below c tr ch) b)) o)

    pub off-way : {p : State} → Towards c s p [] → (on_the_way c p s ≡ 0) × ((k : State) → Child c p k → Towards c s k [])
    unfolding on_the_way
    off-way {p} w =
        (first-none _ (children c p) (λ x m. none_over w (children-mem c p m)), λ k ch. inr (refl, none_over w ch))

    -- what each child of an all-of state is handed
    pub each_way : {p : State} (h : List State) → Towards c s p h → (k : State) → Child c p k → Towards c s k (tail (towards k h))
    unfolding when◌then◌else◌
    each_way [] w k ch = (off-way w).1 k ch
    each_way {p} (q ∷ h) w k ch =
        let (e, cq, bq, d) = on-way w in
        elim (ℕ_discrete k q) [
          | yes i ↦ rw (eq-eqb k q i, i) d
          | no i ↦ rw (ne_eqb k q i) (inr (refl, not-over ch (λ b. i (lone cq ch bq b))))
        ]

  -- the arena is the target or above it
  pub arena-below : (p s : State) (path : List Segment) → p < states c → s < states c → Below c (arena c p s path) s
  unfolding arena common when◌then◌else◌
  arena-below p s path h real =
      elim (two (eqb p s && eqb p (common c p s path))) [
        | inl e ↦ rw (e, ← eqb-true p s (and_left (eqb p s) _ e)) (parent_above p h)
        | inr e ↦ rw e
            (elim (first-mem (λ x. over c x s && every (over c x) (junction_parents c path)) (lineage c deepest p)) [
              | inl z ↦ rw z (over_below c tr real (tr.depth s real))
              | inr m ↦ over_below c tr real (and_left _ _ m.1)
            ])
      ]
    where
      parent_above : (x : State) → x < states c → Below c (parent c x) x
      parent_above zero l = rw tr.top here
      parent_above (suc x) l = child-below c tr (child-of-parent (omega arith) l)
