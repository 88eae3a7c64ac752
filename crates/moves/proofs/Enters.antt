-- Entering, as the code goes: the children of a state from a number on; the one on the way to a target; of two numbers the first,
-- unless that names none; entering as arriving, then the children; and these as the chosen one, or each. Assumes nothing.
use mathlib.Core.Path.{◌≡◌, refl, sym, ◌∙◌}
use mathlib.Core.Bool.{Bool, true, false, ◌&&◌}
use mathlib.Core.List.{List, [], ◌∷◌, map}
use Prim.Native.Nat.{ℕ, zero, suc, ◌+◌, ◌-◌, ◌≤◌, ◌<◌}
use native.Mathlib.Omega.{arith}
use lib.Dec.{eqb}
use Rattle.std.specs.Prelude.{Option, Some, None}
use Rattle.std.specs.List.{find, range_with_len}
use Rattle.std.specs.Option.{option_map}
use Rattle.std.proofs.lemmas.Iterator.Adapters.{option_map_id}
use Rattle.rules.specs.Lists.{when◌then◌else◌, up_from, range, keep, first, ◌else◌}
use Rattle.rules.specs.Chart.{Chart, State, states, parent, is_one_of, children, over}
use Rattle.rules.specs.Doing.{Now, Outcome, refused, went, Done, after, done, give, ◌>>=◌, ◌>>◌, look, each}
use Rattle.rules.specs.Fire.{on_the_way, to_enter, enter_each, enter}
use Rattle.rules.specs.declared.headers.Header.{Header}
use Rattle.rules.specs.declared.numbers.StateNo.{StateNo}
use Rattle.chart.specs.Places.{header_of}
use Rattle.chart.proofs.Ranges.{keep-end, keep-pass, keep-skip}
use Rattle.moves.specs.Steps.{named, arriving, chosen_child}
use Rattle.moves.proofs.Follows.{less_one}

-- the children of s from a up to e
abbrev pub children_from : Chart → State → ℕ → ℕ → List State
children_from c s a e = keep (λ k. eqb (parent c k) s) (range a e)

-- by the chart's own header these are all
pub all_from : (c : Chart) (s : State) (h : Header) → h ≡ header_of c → children c s ≡ children_from c s 1 h.states
unfolding children
all_from c s h own = rw own

module _ (c : Chart) (s k e : ℕ) where
  pub none_from : e ≤ k → children_from c s k e ≡ []
  none_from h = keep-end _ k e h

  module _ (h : k < e) {p : State} (read : p ≡ parent c k) where
    pub a-child : eqb p s ≡ true → children_from c s k e ≡ k ∷ children_from c s (k + 1) e
    a-child q = keep-pass _ k e h (rw (← read) q)

    pub no-child : eqb p s ≡ false → children_from c s k e ≡ children_from c s (k + 1) e
    no-child q = keep-skip _ k e h (rw (← read) q)

-- the state that a number names
name_of : (k : ℕ) → 0 < k → Some (record { 0 = k }) ≡ named k
name_of zero h = absurd (omega arith)
name_of (suc k) h = refl

-- the first child on the way, as the code finds it
module _ (c : Chart) (s target : State) where
  abbrev pub leads : StateNo → Bool
  leads k = eqb (parent c k.0) s && over c k.0 target

  abbrev pub found_from : ℕ → ℕ → Option StateNo
  found_from a n = find leads (map (λ k. record { 0 = k }) (range_with_len a n))

  abbrev way_from : ℕ → ℕ → State
  way_from a n = first (λ k. over c k target) (keep (λ k. eqb (parent c k) s) (up_from a n))

  found-named : (a n : ℕ) → 0 < a → found_from a n ≡ named (way_from a n)
  unfolding up_from first keep when◌then◌else◌
  found-named a zero h = refl
  found-named a (suc n) h = by (eqb (parent c a) s) (over c a target) refl refl (found-named (a + 1) n (omega arith))
    where
      by : (child above : Bool) → eqb (parent c a) s ≡ child → over c a target ≡ above
          → found_from (a + 1) n ≡ named (way_from (a + 1) n) → found_from a (suc n) ≡ named (way_from a (suc n))
      by true true p q rest = rw (p, q) (name_of a h)
      by true false p q rest = rw (p, q) rest
      by false above p q rest = rw p rest

  pub way-found : (h : Header) → h ≡ header_of c → (r : Option StateNo) → option_map (λ k. k) r ≡ found_from 1 (h.states - 1)
      → r ≡ named (on_the_way c s target)
  unfolding on_the_way children range
  way-found h own r found = sym (option_map_id r) ∙ found ∙ rw own (found-named 1 (states c - 1) (omega arith))

-- a number, or the next one if it names none
pub named-one : (a b : ℕ) {k : StateNo} → Some k ≡ named a → k.0 ≡ a else b
unfolding ◌else◌
named-one zero b e = absurd (cc)
named-one (suc a) b {k} e = let q : k ≡ record { 0 = suc a } = cc in rw q refl

pub named-none : (a b : ℕ) → None ≡ named a → a else b ≡ b
unfolding ◌else◌
named-none zero b e = refl
named-none (suc a) b e = absurd (cc)

-- a number, or the next one if it is 0
pub this-one : (a b : ℕ) {r : ℕ} → r ≡ a → (r ≡ 0 → ⊥) → r ≡ a else b
unfolding ◌else◌
this-one zero b e n = absurd (n e)
this-one (suc a) b e n = e

pub next_one : (b : ℕ) {a r : ℕ} → r ≡ a → r ≡ 0 → a else b ≡ b
unfolding ◌else◌
next_one b e z = rw (sym e, z)

-- a doing whose last step is drawn out of it
last_out : (e m q : Done) {p : Done} → ((n : Now) → p n ≡ (q >> e) n)
    → (n : Now) → (m >> p) n ≡ ((m >> q) >> e) n
unfolding ◌>>◌
last_out e m q {p} h n = by (m n)
  where
    by : (o : Outcome (Unit {0})) → after o (λ _. p) ≡ after (after o (λ _. q)) (λ _. e)
    by (refused r) = refl
    by (went a n') = h n'

-- entering is arriving, then entering the children
pub enter-some : (c : Chart) (d : ℕ) (target s : State) (n : Now) → (d ≡ 0 → ⊥)
    → enter c d target s n ≡ (arriving c s >> enter_each c (enter c (d - 1) target) target s) n
unfolding enter arriving
enter-some c zero target s n deep = absurd (deep refl)
enter-some c (suc d) target s n deep =
    rw less_one (last_out _ _ _ (last_out _ _ _ (last_out _ _ _ (λ n. refl))) n)

-- nothing done after it
done-after : (o : Outcome (Unit {0})) → after o (λ _. done) ≡ o
unfolding done give
done-after (refused r) = refl
done-after (went a n) = refl

-- entering the children is doing f for the chosen one, or for each of them
module _ (c : Chart) (f : State → Done) (target s : State) (n : Now) where
  pub enter-chosen : is_one_of c s ≡ true → {k : State} → k ≡ chosen_child c s target n.image → {all : Outcome (Unit {0})}
      → all ≡ f k n → all ≡ enter_each c f target s n
  unfolding enter_each to_enter chosen_child look ◌>>=◌ ◌>>◌ each when◌then◌else◌
  enter-chosen b e told = rw (b, sym e) (told ∙ sym (done-after (f _ n)))

  pub enter-each : is_one_of c s ≡ false → {all : Outcome (Unit {0})} → all ≡ each f (children c s) n → all ≡ enter_each c f target s n
  unfolding enter_each to_enter look ◌>>=◌ when◌then◌else◌
  enter-each b told = rw b told
