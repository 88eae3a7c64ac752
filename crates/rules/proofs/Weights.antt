-- What a state and the states below it weigh: no more than all states together. It is counted level by level: the children of
-- distinct states are distinct, and each has a higher number than its parent. Assumes nothing.
use mathlib.Core.Path.{◌≡◌, refl, sym}
use mathlib.Core.Logic.{inl, inr}
use mathlib.Core.List.Memᴰ
use mathlib.Core.List.{List, [], ◌∷◌, ◌++◌}
use Prim.Native.Nat.{ℕ, zero, suc, ◌+◌, ◌-◌, ◌≤◌, ◌<◌}
use native.Mathlib.Omega.{arith}
use Rattle.rules.specs.Lists.{down_from, below, range, sum_over}
use Rattle.rules.specs.Chart.{State, Chart, states, parent, children, children_down}
use Rattle.rules.proofs.Members.{Mem, mem_below, range-mem, mem-range}
use Rattle.rules.proofs.Taken.{Child, children-mem, children_down-mem, mem-children, Tree}
use Rattle.rules.proofs.Distinct.{Distinct, range-distinct, down_from-distinct, keep-distinct, distinct_append, light}
use Rattle.rules.proofs.Sums.{sum-append, sum_both}
use Rattle.rules.proofs.Trees.{child-more}

-- s and what is below it, with d levels in all
unfoldable pub weigh : Chart → (State → ℕ) → ℕ → State → ℕ
weigh c w zero s = 0
weigh c w (suc d) s = w s + sum_over (λ k. weigh c w d k) (children c s)

module _ (c : Chart) where
  -- what the children of a state weigh, without what is below them
  first_below : (State → ℕ) → State → ℕ
  first_below w p = sum_over w (children c p)

  weigh-step : (w : State → ℕ) (d : ℕ) (s : State) → weigh c w (suc d) s ≡ w s + weigh c (first_below w) d s
  unfolding weigh first_below
  weigh-step w zero s = omega (arith, sum_both (λ _. 0) (λ _. 0) (λ _. 0) (children c s) (λ _. refl))
  weigh-step w (suc d) s =
      omega (arith, sum_both (λ k. weigh c w (suc d) k) w (weigh c (first_below w) d) (children c s) (weigh-step w d))

  -- the children of all of a list
  kin : List State → List State
  kin [] = []
  kin (p ∷ ps) = children c p ++ kin ps

  kin-sum : (w : State → ℕ) (ps : List State) → sum_over w (kin ps) ≡ sum_over (first_below w) ps
  unfolding kin first_below sum_over
  kin-sum w [] = refl
  kin-sum w (p ∷ ps) = rw (sum-append w (children c p) (kin ps), kin-sum w ps) refl

  kin-mem : (ps : List State) {k : State} → Mem k (kin ps) → Mem (parent c k) ps × Child c (parent c k) k
  unfolding kin
  kin-mem [] m = absurd (Memᴰ.not-nil m)
  kin-mem (p ∷ ps) m =
      elim (Memᴰ.append_cases (children c p) m) [
        | inl n ↦ let ch = children-mem c p n in rw ch.of (Memᴰ.head refl, ch)
        | inr n ↦ let (a, b) = kin-mem ps n in (Memᴰ.tail a, b)
      ]

  pub children-distinct : (p : State) → Distinct (children c p)
  unfolding children
  children-distinct p = keep-distinct _ (range 1 (states c)) (range-distinct 1 (states c))

  kin-distinct : (ps : List State) → Distinct ps → Distinct (kin ps)
  unfolding kin
  kin-distinct [] d = tt
  kin-distinct (p ∷ ps) d =
      distinct_append (children c p) (kin ps) (children-distinct p) (kin-distinct ps d.1)
      (λ k m n. d.0 (Memᴰ.cast (sym (children-mem c p m).of) (kin-mem ps n).0))

  pub down-distinct : (p : State) → Distinct (children_down c p)
  unfolding children_down
  down-distinct p = keep-distinct _ (down_from (states c - 1)) (down_from-distinct (states c - 1))

  pub down-light : (w : State → ℕ) (s : State) → sum_over w (children_down c s) ≤ sum_over w (children c s)
  down-light w s =
      light w (children_down c s) (children c s) (down-distinct s)
      (λ k m. mem-children c s k (children_down-mem c s m))

  module _ (tr : Tree c) where
    -- the states from s on
    abbrev from : State → List State
    from s = range s (states c)

    weigh-from : (w : State → ℕ) (d : ℕ) (s : State) → s < states c → weigh c w d s ≤ sum_over w (from s)
    unfolding weigh sum_over
    weigh-from w zero s h = omega arith
    weigh-from w (suc d) s h =
        let l = light w (s ∷ kin (from s)) (from s) (new, kin-distinct (from s) (range-distinct s (states c))) inside in
        omega (arith, weigh-step w d s, weigh-from (first_below w) d s h, kin-sum w (from s))
      where
        more : {k : State} → Mem k (kin (from s)) → (s < k) × (k < states c)
        more m = let (p, ch) = kin-mem (from s) m in omega (arith, range-mem s (states c) p, child-more c tr ch, ch.state)

        new : Mem s (kin (from s)) → ⊥
        new m = omega (arith, more m)

        inside : (k : State) → Mem k (s ∷ kin (from s)) → Mem k (from s)
        inside k m =
            elim (Memᴰ.cases_cons m) [
              | inl e ↦ mem-range s (states c) k (omega arith) (omega arith)
              | inr n ↦ let (g, q) = more n in mem-range s (states c) k (omega arith) q
            ]

    -- a state and what is below it weigh no more than all states
    pub weigh-all : (w : State → ℕ) (d : ℕ) (s : State) → s < states c → weigh c w d s ≤ sum_over w (below (states c))
    weigh-all w d s h =
        omega (arith, weigh-from w d s h, light w (from s) (below (states c)) (range-distinct s (states c)) inside)
      where
        inside : (k : State) → Mem k (from s) → Mem k (below (states c))
        inside k m = mem_below (states c) k (range-mem s (states c) m).1

    pub weigh-children : (w : State → ℕ) (d : ℕ) (s : State) → s < states c
        → sum_over (λ k. weigh c w d k) (children c s) ≤ sum_over w (below (states c))
    unfolding weigh
    weigh-children w d s h = omega (arith, weigh-all w (suc d) s h)
