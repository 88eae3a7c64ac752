-- A run without recursion. A state is run by itself, then its children; what is left to run afterwards are the later
-- children of its parent, of its parent's parent, and so on, and the first of these has the next turn. Assumes nothing.
use mathlib.Core.Path.{◌≡◌, refl, sym, ap, ◌∙◌}
use mathlib.Core.Bool.{Bool, true, false, ◌&&◌}
use mathlib.Core.List.{List, [], ◌∷◌}
use Prim.Native.Nat.{ℕ, zero, suc, ◌+◌, ◌-◌, ◌≤◌, ◌<◌}
use native.Mathlib.Omega.{arith}
use native.Mathlib.Numerals.{add-one}
use lib.Dec.{eqb, ltb, leb}
use Rattle.std.specs.Prelude.{Result, Ok, Err}
use Rattle.std.specs.Result.{IsErrAnd}
use borrow.Author.Tests.{eqb-true, eqb-false, ne_eqb, ltb-true, ltb-false}
use Rattle.rules.specs.Lists.{when◌then◌else◌, range, keep, first}
use Rattle.rules.specs.Chart.{State, Segment, Chart, deepest, states, parent, is_one_of, children, during, outer, inner, code}
use Rattle.rules.specs.Image.{is_active}
use Rattle.rules.specs.Doing.{Now, Outcome, went, Done, give, done, after, ◌>>=◌, ◌>>◌, look, pay, during_point, note, each, when_active}
use Rattle.rules.specs.Block.{Ran, ran, abandoned, unless_abandoned, send_from, perform}
use Rattle.rules.specs.Search.{Found, reached, nowhere, ended, run_abandoned, search}
use Rattle.rules.specs.Fire.{levels, fire}
use Rattle.rules.specs.Run.{follow, run_active, run_children, run_inside, run_during, run, send}
use Rattle.rules.specs.declared.refusals.Refusal.{Refusal}
use Rattle.rules.proofs.Laws.{both}
use Rattle.chart.specs.Places.{header_of}
use Rattle.chart.specs.Read.{children_from}
use Rattle.chart.proofs.Ranges.{keep-end, keep-pass, keep-skip}
use Rattle.doing.specs.Outcomes.{outcome_of}
use Rattle.doing.proofs.Laws.{each_none, each-went}
use Rattle.moves.proofs.Follows.{less_one}
use Rattle.doing.proofs.Sequels.{refused-ends, went-next}
use Rattle.engine.specs.Told.{is_abandoned, acted, ending, followed, inside_alone, run_alone}
use Rattle.engine.specs.Turns.{Whose, at, nobody, next_from, childs_turn, next_turn}
use Rattle.engine.proofs.Turning.{first_in, none-past, found_here, found-later, follows-none, follows_next, child-turn, too-deep, turn-child, turn-over, turn-above, InDepth, in-depth}
use Rattle.engine.proofs.Joining.{after-after, after_same, after-done}
use Rattle.engine.proofs.Units.{kept, run_alone-falls}

module _ (c : Chart) (sends e : ℕ) (f : State → Done) (p : State) where
  -- what follows once p is run by itself
  abbrev inside : Bool → Done
  inside b = when b then done else run_children c f p

  -- a path that is fired ends it, and what follows is done where the run is not over
  followed_then : (o : Found) (rest : Done) (n : Now) → follow c p o rest n ≡ after (ending c sends e p o n) (λ b. when b then done else rest)
  unfolding follow ending when◌then◌else◌ ◌>>◌ give
  followed_then (reached s path) rest n = sym (after-after (fire c p s path n) _ _ ∙ after-done (fire c p s path n))
  followed_then nowhere rest n = refl
  followed_then ended rest n = refl
  followed_then run_abandoned rest n = refl

  -- an edge's segments are followed
  edge-then : (ts : List Segment) (rest : Done) (n : Now)
      → after (search c (send c sends) e p ts n) (λ o. follow c p o rest) ≡ after (followed c sends e p ts n) (λ b. when b then done else rest)
  unfolding followed ◌>>=◌
  edge-then ts rest n =
      after_same (search c (send c sends) e p ts n) (λ o n'. followed_then o rest n')
      ∙ sym (after-after (search c (send c sends) e p ts n) _ _)

  unless-then : (r : Ran) (n : Now)
      → unless_abandoned r tt (λ _. run_inside c (send c sends) e f p) n
      ≡ after (after (give (is_abandoned r) n) (λ b. when b then give true else followed c sends e p (inner c p))) inside
  unfolding unless_abandoned is_abandoned run_inside give done when◌then◌else◌ ◌>>=◌
  unless-then (ran st) n = edge-then (inner c p) (run_children c f p) n
  unless-then abandoned n = refl

  acted-then : (n : Now)
      → after (perform (send_from p (send c sends)) [] (code c (during c p)) n) (λ r. unless_abandoned r tt (λ _. run_inside c (send c sends) e f p))
      ≡ after (after (acted c sends p (during c p) n) (λ b. when b then give true else followed c sends e p (inner c p))) inside
  unfolding acted ◌>>=◌
  acted-then n =
      let o = perform (send_from p (send c sends)) [] (code c (during c p)) n in
      after_same o unless-then ∙ sym (after-after o _ _) ∙ ap (λ (x : Outcome Bool). after x inside) (sym (after-after o _ _))

  during-then : (n : Now) → run_during c (send c sends) e f p n ≡ after (inside_alone c sends e p n) inside
  unfolding run_during inside_alone ◌>>=◌ ◌>>◌
  during-then n =
      after_same (note during_point p n) (λ _ n'. acted-then n') ∙ sym (after-after (note during_point p n) _ _)

  rest_then : (b : Bool) (n : Now)
      → (when b then done else run_during c (send c sends) e f p) n ≡ after ((when b then give true else inside_alone c sends e p) n) inside
  unfolding when◌then◌else◌ give done
  rest_then true n = refl
  rest_then false n = during-then n

  outer-then : (n : Now)
      → after (search c (send c sends) e p (outer c p) n) (λ o. follow c p o (run_during c (send c sends) e f p))
      ≡ after (after (followed c sends e p (outer c p) n) (λ b. when b then give true else inside_alone c sends e p)) inside
  outer-then n =
      let o = followed c sends e p (outer c p) n in
      edge-then (outer c p) _ n ∙ after_same o rest_then ∙ sym (after-after o _ _)

-- a run is a run by itself, then of the children
run-alone : (c : Chart) (sends e d : ℕ) (p : State) (n : Now)
    → run c (send c sends) e (suc d) p n
    ≡ after (run_alone c sends e p n) (λ b. when b then done else run_children c (run c (send c sends) e d) p)
unfolding run run_alone ◌>>=◌ ◌>>◌
run-alone c sends e d p n =
    after_same (pay n) (λ _ n'. outer-then c sends e (run c (send c sends) e d) p n') ∙ sym (after-after (pay n) _ _)

-- the active children of p from a up to e, run one after the other
module _ (c : Chart) (f : State → Done) (p : State) where
  abbrev is_turn : Now → State → Bool
  is_turn n s = eqb (parent c s) p && is_active n.image s

  abbrev each_in : ℕ → ℕ → Done
  each_in a e = each (λ s. when_active s (f s)) (keep (λ s. eqb (parent c s) p) (range a e))

  each-end : (a e : ℕ) (n : Now) → e ≤ a → each_in a e n ≡ went tt n
  each-end a e n h = rw (keep-end (λ s. eqb (parent c s) p) a e h) (each_none _ n)

  module _ (a e : ℕ) (n : Now) (more : a < e) where
    by-test : (t u : Bool) → eqb (parent c a) p ≡ t → is_active n.image a ≡ u
        → each_in a e n ≡ when t && u then (f a >> each_in (a + 1) e) n else each_in (a + 1) e n
    unfolding each when_active done give ◌>>◌ when◌then◌else◌
    by-test false u q v = rw (keep-skip (λ s. eqb (parent c s) p) a e more q)
    by-test true false q v = rw (keep-pass (λ s. eqb (parent c s) p) a e more q, v)
    by-test true true q v = rw (keep-pass (λ s. eqb (parent c s) p) a e more q, v)

    each-skip : is_turn n a ≡ false → each_in a e n ≡ each_in (a + 1) e n
    unfolding when◌then◌else◌
    each-skip q = rw (by-test (eqb (parent c a) p) (is_active n.image a) refl refl, q)

    each_take : is_turn n a ≡ true → each_in a e n ≡ (f a >> each_in (a + 1) e) n
    unfolding when◌then◌else◌
    each_take q = rw (by-test (eqb (parent c a) p) (is_active n.image a) refl refl, q)

    -- nobody is active: the root is nobody's child
    none-step : (t : Bool) → is_turn n a ≡ t → (a ≡ 0 → ⊥) → first_in c n.image p a e ≡ 0
        → (first_in c n.image p (a + 1) e ≡ 0 → each_in (a + 1) e n ≡ went tt n) → each_in a e n ≡ went tt n
    none-step true v some none later = absurd (some (sym (found_here c n.image p a e more v) ∙ none))
    none-step false v some none later = each-skip v ∙ later (sym (found-later c n.image p a e more v) ∙ none)

  none-active : (m a e : ℕ) (n : Now) → e - a ≡ m → (a ≡ 0 → e ≡ 0) → first_in c n.image p a e ≡ 0 → each_in a e n ≡ went tt n
  none-active zero a e n q root none = each-end a e n (omega arith)
  none-active (suc m) a e n q root none =
      none-step a e n (omega arith) (is_turn n a) refl (λ z. absurd (omega (arith, root z))) none
      (none-active m (a + 1) e n (omega arith) (λ z. absurd (omega arith)))

  -- s is the first active one
  record Taken (a e : ℕ) (n : Now) (s : State) : Type 0 where
    within : s < e
    child : parent c s ≡ p
    goes : each_in a e n ≡ (f s >> each_in (s + 1) e) n

  taken_step : (a e : ℕ) (n : Now) (more : a < e) (t : Bool) {s : State} → is_turn n a ≡ t → first_in c n.image p a e ≡ s
      → (first_in c n.image p (a + 1) e ≡ s → Taken (a + 1) e n s) → Taken a e n s
  taken_step a e n more true v is later =
      rw (sym is, found_here c n.image p a e more v)
      (record {
        within = more;
        child = eqb-true _ _ (both _ _ v).0;
        goes = each_take a e n more v;
      })
  taken_step a e n more false v is later =
      let t = later (sym (found-later c n.image p a e more v) ∙ is) in
      record {
        within = t.within;
        child = t.child;
        goes = each-skip a e n more v ∙ t.goes;
      }

  one-active : (m a e : ℕ) (n : Now) {s : State} → e - a ≡ m → first_in c n.image p a e ≡ s → (s ≡ 0 → ⊥) → Taken a e n s
  one-active zero a e n q is some = absurd (some (sym is ∙ none-past c n.image p a e (omega arith)))
  one-active (suc m) a e n q is some =
      taken_step a e n (omega arith) (is_turn n a) refl is (λ r. one-active m (a + 1) e n (omega arith) r some)

either_way : {A : Type 0} (t : Bool) (x : A) → (when t then x else x) ≡ x
unfolding when◌then◌else◌
either_way true x = refl
either_way false x = refl

module _ (c : Chart) (sends e : ℕ) where
  abbrev pub running : ℕ → State → Done
  running d p = run c (send c sends) e d p

  -- s is run, unless it is 0
  abbrev if_some : ℕ → State → Done
  if_some d s = when eqb s 0 then done else running d s

  -- the children of p from a number on that still have their turn
  unfoldable pub pending : ℕ → State → ℕ → Done
  pending d p from =
      when is_one_of c p then (look >>= (λ im. if_some d (first (is_active im) (children_from c (header_of c) from p))))
      else each (λ s. when_active s (running d s)) (children_from c (header_of c) from p)

  -- what is left to run once p and those below it are done, p being so many levels below the state that the run began at
  unfoldable pub climb : ℕ → State → Done
  climb zero p = done
  climb (suc i) p = pending (deepest - i) (parent c p) (next_from c (header_of c) (parent c p) p) >> climb i (parent c p)

  all-pending : (d : ℕ) (p : State) (n : Now) → pending d p 1 n ≡ run_children c (running d) p n
  unfolding pending run_children run_active children_from children
  all-pending d p n = refl

  -- a choice by the kind of p
  one_of : (d : ℕ) (p : State) (from : ℕ) (n : Now) → is_one_of c p ≡ true → pending d p from n ≡ if_some d (first_in c n.image p from (states c)) n
  unfolding pending children_from look ◌>>=◌ when◌then◌else◌
  one_of d p from n q = rw q

  all_of : (d : ℕ) (p : State) (from : ℕ) (n : Now) → is_one_of c p ≡ false → pending d p from n ≡ each_in c (running d) p from (states c) n
  unfolding pending children_from when◌then◌else◌
  all_of d p from n q = rw q

  -- none is pending
  module _ (d : ℕ) (p : State) (from : ℕ) (n : Now) where
    nobody-pending : (t : Bool) → is_one_of c p ≡ t → (from ≡ 0 → states c ≡ 0) → first_in c n.image p from (states c) ≡ 0
        → pending d p from n ≡ went tt n
    unfolding when◌then◌else◌ done give
    nobody-pending true q root none = one_of d p from n q ∙ rw none
    nobody-pending false q root none = all_of d p from n q ∙ none-active c (running d) p (states c - from) from (states c) n refl root none

    past-pending : states c ≤ from → pending d p from n ≡ went tt n
    past-pending past =
        nobody-pending (is_one_of c p) refl (λ z. omega arith) (none-past c n.image p from (states c) past)

  -- below the deepest nobody is run
  each-deep : (xs : List State) (n : Now) → each (λ s. when_active s (running 0 s)) xs n ≡ went tt n
  unfolding when_active run done give
  each-deep [] n = each_none _ n
  each-deep (x ∷ xs) n = each-went _ x xs n (either_way (is_active n.image x) _) ∙ each-deep xs n

  deep-pending : (p : State) (from : ℕ) (n : Now) (t : Bool) → is_one_of c p ≡ t → pending 0 p from n ≡ went tt n
  unfolding run done give
  deep-pending p from n true q = one_of 0 p from n q ∙ ap (λ (m : Done). m n) (either_way _ (λ n'. went tt n'))
  deep-pending p from n false q = all_of 0 p from n q ∙ each-deep _ n

  -- the turn of a child, and what is pending then
  record Goes (d : ℕ) (p : State) (from : ℕ) (n : Now) (s : State) : Type 0 where
    child : parent c s ≡ p
    goes : pending d p from n ≡ (running d s >> pending d p (next_from c (header_of c) p s)) n

  module _ (d : ℕ) (p : State) (from : ℕ) (n : Now) {s : State} (is : first_in c n.image p from (states c) ≡ s) (some : s ≡ 0 → ⊥) where
    taken : Taken c (running d) p from (states c) n s
    taken = one-active c (running d) p (states c - from) from (states c) n refl is some

    child-goes : (t : Bool) → is_one_of c p ≡ t → Goes d p from n s
    unfolding ◌>>◌ when◌then◌else◌ done give
    child-goes true q =
        record {
          child = taken.child;
          goes =
              one_of d p from n q ∙ rw (is, ne_eqb s 0 some, follows-none c (header_of c) p s q)
              (sym (after_same (running d s n) (λ _ n'. past-pending d p (states c) n' (omega arith)) ∙ after-done (running d s n)));
        }
    child-goes false q =
        record {
          child = taken.child;
          goes =
              all_of d p from n q ∙ taken.goes
              ∙ rw (follows_next c (header_of c) p s q taken.within)
              (sym (after_same (running d s n) (λ _ n'. all_of d p (s + 1) n' q)));
        }

  -- who has the next turn is run, and what is left then
  abbrev pub turned : Whose → Done
  turned nobody = done
  turned (at s d) = running (levels - d) s >> climb d s

  module _ (d : ℕ) (p : State) (from : ℕ) (n : Now) where
    no-turn : (t : Bool) → ltb d deepest ≡ t → (from ≡ 0 → states c ≡ 0) → childs_turn c (header_of c) n.image d p from ≡ 0
        → pending (deepest - d) p from n ≡ went tt n
    unfolding children_from
    no-turn true q root none =
        nobody-pending (deepest - d) p from n (is_one_of c p) refl root
        (sym (child-turn c (header_of c) n.image p from d (ltb-true d deepest q)) ∙ none)
    no-turn false q root none =
        let deep = ltb-false d deepest q in
        let z : deepest - d ≡ 0 = omega arith in
        rw z (deep-pending p from n (is_one_of c p) refl)

    a_turn : (t : Bool) {s : State} → ltb d deepest ≡ t → childs_turn c (header_of c) n.image d p from ≡ s → (s ≡ 0 → ⊥)
        → Goes (deepest - d) p from n s
    unfolding children_from
    a_turn true q is some =
        child-goes (deepest - d) p from n
        (sym (child-turn c (header_of c) n.image p from d (ltb-true d deepest q)) ∙ is) some (is_one_of c p) refl
    a_turn false q is some =
        absurd (some (sym is ∙ too-deep c (header_of c) n.image p from d (ltb-false d deepest q)))

  -- the number that follows is 0 only where there are no states
  next-root : (p s : State) (t u : Bool) → is_one_of c p ≡ t → leb (states c) s ≡ u → next_from c (header_of c) p s ≡ 0 → states c ≡ 0
  unfolding next_from when◌then◌else◌
  next-root p s true u q v z = rw q at z
  next-root p s false true q v z = rw (q, v) at z
  next-root p s false false q v z = let w : s + 1 ≡ 0 = rw (q, v) at z in absurd (omega arith)

  module _ (d : ℕ) (p : State) (from : ℕ) (n : Now) where
    abbrev child_at : State
    child_at = childs_turn c (header_of c) n.image d p from

    child-turned : (child_at ≡ 0 → ⊥)
        → (pending (deepest - d) p from >> climb d p) n ≡ turned (next_turn c (header_of c) n.image d p from) n
    unfolding ◌>>◌ climb
    child-turned some =
        let g = a_turn d p from n (ltb d deepest) refl refl some in
        let z : levels - suc d ≡ deepest - d = omega arith in
        rw (turn-child c (header_of c) n.image p from d refl some, add-one d, z, g.child, g.goes)
        (after-after (running (deepest - d) child_at n) _ _)

    none-turned : (from ≡ 0 → states c ≡ 0) → child_at ≡ 0 → (pending (deepest - d) p from >> climb d p) n ≡ climb d p n
    unfolding ◌>>◌
    none-turned root none = rw (no-turn d p from n (ltb d deepest) refl root none)

  first-turned : (p : State) (from : ℕ) (n : Now) (t : Bool) → eqb (child_at 0 p from n) 0 ≡ t → (from ≡ 0 → states c ≡ 0)
      → (pending deepest p from >> climb 0 p) n ≡ turned (next_turn c (header_of c) n.image 0 p from) n
  unfolding climb
  first-turned p from n true q root =
      let none = eqb-true _ _ q in
      none-turned 0 p from n root none ∙ rw (turn-over c (header_of c) n.image p from 0 refl none)
  first-turned p from n false q root = child-turned 0 p from n (eqb-false _ _ q)

  next-turned : (i : ℕ) (p : State) (from : ℕ) (n : Now) (t : Bool) → eqb (child_at (suc i) p from n) 0 ≡ t → (from ≡ 0 → states c ≡ 0)
      → climb (suc i) p n ≡ turned (next_turn c (header_of c) n.image i (parent c p) (next_from c (header_of c) (parent c p) p)) n
      → (pending (deepest - suc i) p from >> climb (suc i) p) n ≡ turned (next_turn c (header_of c) n.image (suc i) p from) n
  next-turned i p from n true q root later =
      let none = eqb-true _ _ q in
      none-turned (suc i) p from n root none ∙ later
      ∙ rw (turn-above c (header_of c) n.image p from (suc i) (λ z. absurd (omega arith)) none, less_one i)
  next-turned i p from n false q root later = child-turned (suc i) p from n (eqb-false _ _ q)

  -- what is left is the turn of whoever is next
  turn-taken : (d : ℕ) (p : State) (from : ℕ) (n : Now) → (from ≡ 0 → states c ≡ 0)
      → (pending (deepest - d) p from >> climb d p) n ≡ turned (next_turn c (header_of c) n.image d p from) n
  unfolding climb
  turn-taken zero p from n root = first-turned p from n (eqb (child_at 0 p from n) 0) refl root
  turn-taken (suc i) p from n root =
      next-turned i p from n (eqb (child_at (suc i) p from n) 0) refl root
      (turn-taken i (parent c p) _ n (next-root (parent c p) p (is_one_of c (parent c p)) (leb (states c) p) refl refl))

  -- p is run by itself: then it is over, or its children are pending
  module _ (d : ℕ) (p : State) where
    abbrev after_alone : Bool → Done
    after_alone b = (when b then done else run_children c (running (deepest - d)) p) >> climb d p

    alone-first : (n : Now) → d ≤ deepest → turned (at p d) n ≡ after (run_alone c sends e p n) after_alone
    unfolding ◌>>◌
    alone-first n deep =
        let z : levels - d ≡ suc (deepest - d) = omega arith in
        rw z (ap (λ (o : Outcome (Unit {0})). after o (λ _. climb d p)) (run-alone c sends e (deepest - d) p n)
        ∙ after-after (run_alone c sends e p n) _ _)

    -- its children have their turn from this number on
    abbrev from_of : Bool → ℕ
    from_of b = when b then states c else 1

    alone-turned : (b : Bool) (n : Now) → after_alone b n ≡ turned (next_turn c (header_of c) n.image d p (from_of b)) n
    unfolding ◌>>◌ when◌then◌else◌ done give
    alone-turned true n =
        sym (ap (λ (o : Outcome (Unit {0})). after o (λ _. climb d p)) (past-pending (deepest - d) p (states c) n (omega arith)))
        ∙ turn-taken d p (states c) n (λ z. z)
    alone-turned false n =
        sym (ap (λ (o : Outcome (Unit {0})). after o (λ _. climb d p)) (all-pending (deepest - d) p n))
        ∙ turn-taken d p 1 n (λ z. absurd (omega arith))

-- the loop's invariant: what is left to run from a turn on is what there was to run
pub record Runs (c : Chart) (sends e : ℕ) (top : State) (n₀ : Now) (turn : Whose) (n : Now) : Type 0 where
  pub units : n.units ≤ n₀.units
  pub depth : InDepth turn
  pub same : turned c sends e turn n ≡ running c sends e levels top n₀

module _ {c : Chart} {sends e : ℕ} {top : State} where
  pub runs-start : (n : Now) → Runs c sends e top n (at top 0) n
  unfolding ◌>>◌ climb
  runs-start n = record { units = omega arith; depth = omega arith; same = after-done (running c sends e levels top n) }

  module _ {n₀ n : Now} where
    pub runs-over : Runs c sends e top n₀ nobody n → went tt n ≡ running c sends e levels top n₀
    unfolding done give
    runs-over runs = runs.same

    module _ {p : State} {d : ℕ} (runs : Runs c sends e top n₀ (at p d) n) (n' : Now) {r : Result Bool Refusal}
        (says : outcome_of r n' ≡ run_alone c sends e p n) where
      pub runs-refused : {why : Refusal} → r ≡ Err why → (all : Result (Unit {0}) Refusal) (n'' : Now) → IsErrAnd all (λ e. e ≡ why)
          → outcome_of all n'' ≡ running c sends e levels top n₀
      runs-refused is all n'' told =
          refused-ends n' (after_alone c sends e d p) says is all n'' told ∙ sym (alone-first c sends e d p n runs.depth) ∙ runs.same

      pub runs-next : {b : Bool} → r ≡ Ok b → {from : ℕ} → from ≡ when b then states c else 1
          → {w : Whose} → w ≡ next_turn c (header_of c) n'.image d p from → Runs c sends e top n₀ w n'
      runs-next {b} is f t =
          let fewer = kept (run_alone-falls c sends e p) n n' says is in
          rw (t, f)
          (record {
            units = omega (arith, fewer, runs.units);
            depth = in-depth c (header_of c) n'.image d p _;
            same =
                went-next n' (after_alone c sends e d p) says is (sym (alone-turned c sends e d p b n'))
                ∙ sym (alone-first c sends e d p n runs.depth) ∙ runs.same;
          })
