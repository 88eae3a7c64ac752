-- Whose turn it is, as the code finds it: the first active child from a number on, by what stands at that number, and the
-- next turn, by whether a child was found and how deep the state is. Assumes nothing.
use mathlib.Core.Path.{◌≡◌, refl}
use mathlib.Core.Bool.{Bool, true, false, ◌&&◌}
use Prim.Native.Nat.{ℕ, zero, suc, ◌+◌, ◌-◌, ◌≤◌, ◌<◌}
use native.Mathlib.Omega.{arith}
use lib.Dec.{eqb, ltb}
use borrow.Author.Tests.{lt-ltb, le-ltb, le-leb, lt-leb, ne_eqb, eqb-false, ltb-true, ltb-false}
use Rattle.rules.specs.Lists.{when◌then◌else◌, range, keep, first}
use Rattle.rules.specs.Chart.{State, Chart, deepest, parent, is_one_of}
use Rattle.rules.specs.Image.{Image, is_active}
use Rattle.rules.specs.declared.headers.Header.{Header}
use Rattle.chart.specs.Read.{children_from}
use Rattle.moves.proofs.Follows.{less_one}
use Rattle.chart.proofs.Ranges.{keep-end, keep-pass, keep-skip}
use Rattle.engine.specs.Turns.{Whose, at, nobody, next_from, childs_turn, turn_or, next_turn}

-- the first active child of p from a up to e
abbrev pub first_in : Chart → Image → State → ℕ → ℕ → State
first_in c im p a e = first (is_active im) (keep (λ s. eqb (parent c s) p) (range a e))

module _ (c : Chart) (im : Image) (p : State) (a e : ℕ) where
  pub none-past : e ≤ a → first_in c im p a e ≡ 0
  unfolding first
  none-past h = rw (keep-end (λ s. eqb (parent c s) p) a e h)

  module _ (more : a < e) where
    pub by-tests : (t u : Bool) → eqb (parent c a) p ≡ t → is_active im a ≡ u
        → first_in c im p a e ≡ when t && u then a else first_in c im p (a + 1) e
    unfolding first when◌then◌else◌
    by-tests false u q v = rw (keep-skip (λ s. eqb (parent c s) p) a e more q)
    by-tests true u q v = rw (keep-pass (λ s. eqb (parent c s) p) a e more q, v)

    pub found_here : eqb (parent c a) p && is_active im a ≡ true → first_in c im p a e ≡ a
    unfolding when◌then◌else◌
    found_here q = rw (by-tests (eqb (parent c a) p) (is_active im a) refl refl, q)

    pub found-later : eqb (parent c a) p && is_active im a ≡ false → first_in c im p a e ≡ first_in c im p (a + 1) e
    unfolding when◌then◌else◌
    found-later q = rw (by-tests (eqb (parent c a) p) (is_active im a) refl refl, q)

module _ (c : Chart) (h : Header) where
  -- the number that follows a child
  module _ (p s : State) where
    pub follows-none : is_one_of c p ≡ true → next_from c h p s ≡ h.states
    unfolding next_from when◌then◌else◌
    follows-none q = rw q

    module _ (all : is_one_of c p ≡ false) where
      pub follows-past : h.states ≤ s → next_from c h p s ≡ h.states
      unfolding next_from when◌then◌else◌
      follows-past q = rw (all, le-leb h.states s q)

      pub follows_next : s < h.states → next_from c h p s ≡ s + 1
      unfolding next_from when◌then◌else◌
      follows_next q = rw (all, lt-leb h.states s q)

  module _ (im : Image) (p : State) (from : ℕ) where
    -- the deepest states' children have no turn
    pub child-turn : (d : ℕ) → d < deepest → childs_turn c h im d p from ≡ first (is_active im) (children_from c h from p)
    unfolding childs_turn when◌then◌else◌
    child-turn d q = rw (lt-ltb d deepest q)

    pub too-deep : (d : ℕ) → deepest ≤ d → childs_turn c h im d p from ≡ 0
    unfolding childs_turn when◌then◌else◌
    too-deep d q = rw (le-ltb d deepest q)

    pub turn-child : (d : ℕ) {s : State} → childs_turn c h im d p from ≡ s → (s ≡ 0 → ⊥) → next_turn c h im d p from ≡ at s (d + 1)
    unfolding next_turn turn_or when◌then◌else◌
    turn-child zero {s} q some = rw (q, ne_eqb s 0 some)
    turn-child (suc d) {s} q some = rw (q, ne_eqb s 0 some)

    pub turn-over : (d : ℕ) → d ≡ 0 → childs_turn c h im d p from ≡ 0 → next_turn c h im d p from ≡ nobody
    unfolding next_turn turn_or when◌then◌else◌
    turn-over zero top q = rw q
    turn-over (suc d) top q = absurd (omega arith)

    pub turn-above : (d : ℕ) → (d ≡ 0 → ⊥) → childs_turn c h im d p from ≡ 0
        → next_turn c h im d p from ≡ next_turn c h im (d - 1) (parent c p) (next_from c h (parent c p) p)
    unfolding next_turn turn_or when◌then◌else◌
    turn-above zero below q = absurd (below refl)
    turn-above (suc d) below q = rw (less_one d, q)

-- no turn is deeper than the deepest state
abbrev pub InDepth : Whose → Type 0
InDepth (at s d) = d ≤ deepest
InDepth nobody = Unit {0}

module _ (c : Chart) (h : Header) (im : Image) where
  by-depth : (d : ℕ) (p : State) (from : ℕ) (w : Whose) (t u : Bool) → ltb d deepest ≡ t → eqb (childs_turn c h im d p from) 0 ≡ u
      → InDepth w → InDepth (turn_or c h im d (childs_turn c h im d p from) w)
  unfolding turn_or when◌then◌else◌
  by-depth d p from w t true q v deep = rw v deep
  by-depth d p from w true false q v deep = let b = ltb-true d deepest q in rw v (omega arith)
  by-depth d p from w false false q v deep =
      absurd (eqb-false _ _ v (too-deep c h im p from d (ltb-false d deepest q)))

  pub in-depth : (d : ℕ) (p : State) (from : ℕ) → InDepth (next_turn c h im d p from)
  unfolding next_turn
  in-depth zero p from = by-depth zero p from _ _ _ refl refl tt
  in-depth (suc d) p from = by-depth (suc d) p from _ _ _ refl refl (in-depth d (parent c p) _)
