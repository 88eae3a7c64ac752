-- Leaving, as the code goes: as paying, the children, and the rest; and the children of a state below a number, the highest
-- first, of which one that is not active is done with at once. Assumes nothing.
use mathlib.Core.Path.{◌≡◌, refl}
use mathlib.Core.Bool.{Bool, true, false, ◌&&◌}
use mathlib.Core.List.{List, [], ◌∷◌}
use Prim.Native.Nat.{ℕ, zero, suc, ◌-◌, ◌≤◌, ◌<◌}
use native.Mathlib.Omega.{arith}
use lib.Dec.{eqb}
use Rattle.rules.specs.Lists.{when◌then◌else◌, down_from, keep}
use Rattle.rules.specs.Chart.{Chart, State, parent, children_down}
use Rattle.rules.specs.Image.{is_active}
use Rattle.rules.specs.Doing.{Now, Outcome, Done, done, give, ◌>>◌, pay, each, when_active}
use Rattle.rules.specs.Fire.{leave_each, leave}
use Rattle.rules.specs.declared.headers.Header.{Header}
use Rattle.chart.specs.Places.{header_of}
use Rattle.doing.proofs.Laws.{each-went}
use Rattle.moves.specs.Steps.{departing}
use Rattle.moves.proofs.Follows.{less_one}

-- leaving is paying, then leaving the children, then the rest
pub leave-some : (c : Chart) (d : ℕ) (s : State) (n : Now) → (d ≡ 0 → ⊥)
    → leave c d s n ≡ (pay >> (leave_each c (leave c (d - 1)) s >> departing c s)) n
unfolding leave departing ◌>>◌
leave-some c zero s n deep = absurd (deep refl)
leave-some c (suc d) s n deep = rw less_one

-- for an active one it is done
pub when-active : (s : State) (m : Done) (n : Now) → is_active n.image s ≡ true → {all : Outcome (Unit {0})}
    → all ≡ m n → all ≡ when_active s m n
unfolding when_active when◌then◌else◌
when-active s m n e told = rw e told

-- the children of s with a number below k, the highest first
abbrev pub children_below : Chart → State → ℕ → List State
children_below c s k = keep (λ n. eqb (parent c n) s) (down_from (k - 1))

-- by the chart's own header these are all
pub all-below : (c : Chart) (s : State) (h : Header) → h ≡ header_of c → children_down c s ≡ children_below c s h.states
unfolding children_down
all-below c s h own = rw own

highest-first : (m : ℕ) → 0 < m → down_from m ≡ m ∷ down_from (m - 1)
unfolding down_from
highest-first zero h = absurd (omega arith)
highest-first (suc m) h = rw less_one

module _ (c : Chart) (s k : State) where
  pub none_below : k ≤ 1 → children_below c s k ≡ []
  unfolding down_from keep
  none_below h = let q : k - 1 ≡ 0 = omega arith in rw q

  module _ (more : 1 < k) where
    highest : down_from (k - 1) ≡ (k - 1) ∷ down_from (k - 1 - 1)
    highest = highest-first (k - 1) (omega arith)

    pub a-child : eqb (parent c (k - 1)) s ≡ true → children_below c s k ≡ (k - 1) ∷ children_below c s (k - 1)
    unfolding keep when◌then◌else◌
    a-child e = rw (highest, e)

    -- no child, or one that is not active
    pub passed_over : (f : State → Done) (n : Now) → eqb (parent c (k - 1)) s && is_active n.image (k - 1) ≡ false
        → each (λ i. when_active i (f i)) (children_below c s k) n ≡ each (λ i. when_active i (f i)) (children_below c s (k - 1)) n
    unfolding keep when_active when◌then◌else◌ done give
    passed_over f n none = by (eqb (parent c (k - 1)) s) refl none
      where
        by : (t : Bool) → eqb (parent c (k - 1)) s ≡ t → t && is_active n.image (k - 1) ≡ false
            → each (λ i. when_active i (f i)) (children_below c s k) n ≡ each (λ i. when_active i (f i)) (children_below c s (k - 1)) n
        by true p e = rw (highest, p) (each-went _ (k - 1) _ n (rw e))
        by false p e = rw (highest, p)
