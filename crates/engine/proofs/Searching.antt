-- The search as the loop does it: the path is all that waits, since each segment of it says which list goes on after it.
-- What is to do from a place in the loop is what was to do at the start: one law for each way through. Assumes nothing.
use mathlib.Core.Path.{◌≡◌, refl, sym, ◌∙◌}
use mathlib.Core.Bool.{Bool, true, false}
use mathlib.Core.Bool as B
use mathlib.Core.List.{List, [], ◌∷◌, ◌++◌, append-nil}
use Prim.Native.Nat.{ℕ, zero, suc, ◌+◌, ◌*◌, ◌-◌, ◌≤◌, ◌<◌}
use native.Mathlib.Omega.{arith}
use lib.Dec.{eqb}
use lib.ListN.{length}
use borrow.Author.Tests.{ne_eqb}
use Rattle.std.specs.Prelude.{Option, Some, None, Result, Ok, Err}
use Rattle.std.specs.Option.{is_some}
use Rattle.std.specs.Result.{IsErrAnd}
use Rattle.std.proofs.Common.{append_assoc, length-append}
use Rattle.std.proofs.lemmas.Result.{err_from_is_err_and}
use Rattle.rules.specs.Lists.{when◌then◌else◌}
use Rattle.rules.specs.Chart.{State, Segment, Chart, condition_action, destination_kind, destination, ends_on_state, from_junction, code}
use Rattle.rules.specs.Doing.{Now, Outcome, refused, went, Doing, after, give, refuse, ◌>>=◌, ◌>>◌, pay, segment_passed, note}
use Rattle.rules.specs.Block.{Ran, ran, abandoned, unless_abandoned, send_from, perform}
use Rattle.rules.specs.Search.{Found, reached, nowhere, ended, run_abandoned, or_next, passes, tries, passed, search}
use Rattle.rules.specs.Run.{send}
use Rattle.rules.specs.declared.numbers.SegmentNo.{SegmentNo}
use Rattle.rules.specs.declared.numbers.StateNo.{StateNo}
use Rattle.rules.specs.declared.numbers.JunctionNo.{JunctionNo}
use Rattle.rules.specs.declared.refusals.Refusal.{Refusal}
use Rattle.chart.specs.Read.{end_named}
use Rattle.chart.specs.declared.segments.End.{End}
use Rattle.chart.specs.declared.segments.End.TheVariants as end
use Rattle.doing.specs.Outcomes.{outcome_of}
use Rattle.engine.specs.declared.cycle.Tried.{Tried}
use Rattle.engine.specs.declared.cycle.Tried.TheVariants.{Failed, Passed, Abandoned}
use Rattle.engine.specs.declared.cycle.Found.{Found as CodeFound}
use Rattle.engine.specs.Told.{path_after, found_of, is_abandoned, later, list_of, tested, acted, passing, passing_within, tried}
use Rattle.engine.proofs.Joining.{after-after, after_same}
use Rattle.moves.proofs.Follows.{less_one}
use Rattle.engine.proofs.Units.{kept, tried-falls}

-- a path grows by one segment at most
grows : (x : Tried) (path : List Segment) (t : Segment) → length (path_after x path t) ≤ length path + 1
grows Failed path t = omega arith
grows Passed path t = rw length-append (omega arith)
grows Abandoned path t = rw length-append (omega arith)

-- where a segment leads, as the code tells it
module _ (c : Chart) (t : Segment) where
  by-kind : (b : Bool) → eqb (destination_kind c t) 0 ≡ b → {x : End} → x ≡ end_named (destination_kind c t) (destination c t)
      → x ≡ (when b then end.State (record { 0 = destination c t }) else end.Junction (record { 0 = destination c t }))
  by-kind b q is = rw q at is

  to-state : {s : StateNo} → end.State s ≡ end_named (destination_kind c t) (destination c t)
      → (ends_on_state c t ≡ true) × (s.0 ≡ destination c t)
  unfolding when◌then◌else◌
  to-state {s} is = go (eqb (destination_kind c t) 0) refl
    where
      go : (b : Bool) → eqb (destination_kind c t) 0 ≡ b → (ends_on_state c t ≡ true) × (s.0 ≡ destination c t)
      go true q = let e = by-kind true q is in (q, cc)
      go false q = let e = by-kind false q is in absurd cc

  to-junction : {j : JunctionNo} → end.Junction j ≡ end_named (destination_kind c t) (destination c t)
      → (ends_on_state c t ≡ false) × (j.0 ≡ destination c t)
  unfolding when◌then◌else◌
  to-junction {j} is = go (eqb (destination_kind c t) 0) refl
    where
      go : (b : Bool) → eqb (destination_kind c t) 0 ≡ b → (ends_on_state c t ≡ false) × (j.0 ≡ destination c t)
      go true q = let e = by-kind true q is in absurd cc
      go false q = let e = by-kind false q is in (q, cc)

-- a list that is tried, with the path to it and how many more may pass
record Level : Type 0 where
  more : ℕ
  path : List Segment
  list : List Segment

module _ (c : Chart) (n e : ℕ) (s : State) where
  -- such a list is tried
  abbrev trying : ℕ → List Segment → List Segment → Doing Found
  trying m path ts = tries c (send c n) e s (passed c (send c n) e s m path) ts

  -- a list, and those that wait below it
  rest : List Level → Doing Found
  rest [] = give nowhere
  rest (l ∷ ls) = trying l.more l.path l.list >>= (λ o. or_next o (rest ls))

  -- where a segment that passed leads: on a state, to a dead end, or to a junction's list, which is tried first
  leads : ℕ → List Segment → Segment → List Level → Bool → Bool → Doing Found
  leads m path t ls b b' =
      when b then give (reached (destination c t) (path ++ (t ∷ [])))
      else when b' then give ended
      else rest (record { more = m; path = path ++ (t ∷ []); list = from_junction c (destination c t) } ∷ ls)

  -- how it goes on by what trying a segment came to
  onward : ℕ → List Segment → Segment → List Level → Tried → Doing Found
  onward m path t ls Failed = rest ls
  onward m path t ls Abandoned = give run_abandoned
  onward m path t ls Passed = leads (m - 1) path t ls (ends_on_state c t) (eqb (length (from_junction c (destination c t))) 0)

  -- where nothing was found the next list is tried, and the one below it: these two are one
  or-or : (o : Found) (m k : Doing Found) (now : Now) → after (or_next o m now) (λ x. or_next x k) ≡ or_next o (m >>= (λ x. or_next x k)) now
  unfolding or_next give ◌>>=◌
  or-or (reached t path) m k now = refl
  or-or nowhere m k now = refl
  or-or ended m k now = refl
  or-or run_abandoned m k now = refl

  module _ (path : List Segment) (t : Segment) (ts : List Segment) (ls : List Level) where
    abbrev below : ℕ → List Level
    below m = record { more = m; path = path; list = ts } ∷ ls

    -- what the segments after t find, and the lists below, where t finds nothing
    abbrev or_below : ℕ → Found → Doing Found
    or_below m o now = after (or_next o (trying m path ts) now) (λ x. or_next x (rest ls))

    -- the condition action was performed
    acted-ways : (m : ℕ) (r : Ran) (b b' : Bool) (now : Now)
        → after (unless_abandoned r run_abandoned (λ _.
        when b then give (reached (destination c t) (path ++ (t ∷ [])))
        else when b' then give ended
        else trying m (path ++ (t ∷ [])) (from_junction c (destination c t))) now) (or_below (suc m))
        ≡ (when is_abandoned r then give run_abandoned else leads m path t (below (suc m)) b b') now
    unfolding unless_abandoned is_abandoned when◌then◌else◌ give or_next leads rest ◌>>=◌
    acted-ways m (ran st) true b' now = refl
    acted-ways m (ran st) false true now = refl
    acted-ways m (ran st) false false now =
        after_same (trying m (path ++ (t ∷ [])) (from_junction c (destination c t)) now) (λ o now₁. or-or o (trying (suc m) path ts) (rest ls) now₁)
    acted-ways m abandoned b b' now = refl

    acted-on : (m : ℕ) (r : Ran) (now : Now)
        → (when is_abandoned r then give run_abandoned else leads m path t (below (suc m)) (ends_on_state c t) (eqb (length (from_junction c (destination c t))) 0)) now
        ≡ onward (suc m) path t (below (suc m)) (when is_abandoned r then Abandoned else Passed) now
    unfolding is_abandoned when◌then◌else◌ onward
    acted-on m (ran st) now = rw (less_one m)
    acted-on m abandoned now = refl

    -- it was tested
    tested-ways : (m : ℕ) (b : Bool) (now : Now)
        → after ((when b then passed c (send c n) e s m path t else give nowhere) now) (or_below m)
        ≡ after ((when b then passing_within c n m s t else give Failed) now) (onward m path t (below m))
    unfolding passed passing_within passing acted when◌then◌else◌ give refuse or_next onward rest ◌>>=◌ ◌>>◌
    tested-ways m false now = refl
    tested-ways zero true now = refl
    tested-ways (suc m) true now =
        simp after-after (after_same (note segment_passed t now) (λ u now₁.
        after_same (perform (send_from s (send c n)) [] (code c (condition_action c t)) now₁) (λ r now₂.
        acted-ways m r (ends_on_state c t) (eqb (length (from_junction c (destination c t))) 0) now₂ ∙ acted-on m r now₂)))

    rest-tried : (m : ℕ) (now : Now) → rest (record { more = m; path = path; list = t ∷ ts } ∷ ls) now
        ≡ after (tried c n e s m t now) (onward m path t (below m))
    unfolding rest tries tried tested ◌>>=◌ ◌>>◌
    rest-tried m now = simp after-after (after_same (pay now) (λ u now₁. after_same (passes c e t now₁) (λ b now₂. tested-ways m b now₂)))

  -- the search is the first list with none below it
  nothing-after : (o : Outcome Found) → after o (λ x. or_next x (give nowhere)) ≡ o
  unfolding or_next give
  nothing-after (refused r) = refl
  nothing-after (went (reached t path) now) = refl
  nothing-after (went nowhere now) = refl
  nothing-after (went ended now) = refl
  nothing-after (went run_abandoned now) = refl

-- the lists that wait, by the path: each segment of it says which one. They are put before some others
module _ (c : Chart) where
  waiting_on : List Segment → List Segment → List Level → List Level
  waiting_on path [] ls = ls
  waiting_on path (t ∷ ts) ls = waiting_on (path ++ (t ∷ [])) ts (record { more = 128 - length path; path = path; list = later c t } ∷ ls)

  waiting : List Segment → List Level
  waiting path = waiting_on [] path []

  waiting-more : (path ts : List Segment) (t : Segment) (ls : List Level) → waiting_on path (ts ++ (t ∷ [])) ls
      ≡ record { more = 128 - length (path ++ ts); path = path ++ ts; list = later c t } ∷ waiting_on path ts ls
  unfolding waiting_on
  waiting-more path [] t ls = rw append-nil
  waiting-more path (u ∷ us) t ls =
      rw (append_assoc path (u ∷ []) us) at
      (waiting-more (path ++ (u ∷ [])) us t (record { more = 128 - length path; path = path; list = later c u } ∷ ls))

  -- whether the list that a next segment begins has any
  none-there : (next : Option SegmentNo) → eqb (length (list_of c next)) 0 ≡ B.not (is_some next)
  unfolding list_of
  none-there None = refl
  none-there (Some t) = ne_eqb (suc (length (later c t.0))) 0 (λ q. omega arith)

module _ (c : Chart) (n e : ℕ) (s : State) where
  -- what is still to do, with a path, from the next segment on
  pub to_do : List Segment → Option SegmentNo → Doing Found
  to_do path next = rest c n e s (record { more = 128 - length path; path = path; list = list_of c next } ∷ waiting c path)

  -- the loop: what is still to do is what there was to do
  pub record Still (first : Segment) (n₀ : Now) (path : List Segment) (next : Option SegmentNo) (now : Now) : Type 0 where
    pub units : now.units ≤ n₀.units
    pub same : to_do path next now ≡ search c (send c n) e s (first ∷ later c first) n₀

  pub still-start : (first : SegmentNo) (now : Now) → Still first.0 now [] (Some first) now
  unfolding to_do waiting waiting_on rest search list_of ◌>>=◌
  still-start first now = record { units = omega arith; same = nothing-after c n e s _ }

  module _ {first : Segment} {n₀ : Now} {path : List Segment} {next : Option SegmentNo} {now : Now} (still : Still first n₀ path next now) where
    -- the list is used up
    module _ (end : next ≡ None) where
      pub at-end : path ≡ [] → went nowhere now ≡ search c (send c n) e s (first ∷ later c first) n₀
      unfolding to_do rest tries waiting waiting_on list_of give or_next ◌>>=◌
      at-end none = rw (none, end) at still.same

      -- the list below it goes on
      pub below-goes-on : {path' : List Segment} (t : Segment) → path ≡ path' ++ (t ∷ []) → {next' : Option SegmentNo}
          → list_of c next' ≡ later c t → Still first n₀ path' next' now
      unfolding to_do rest tries waiting list_of give or_next ◌>>=◌
      below-goes-on {path'} t p q = record { units = still.units; same = rw q (rw (end, p, waiting-more c [] path' t []) at still.same) }

    -- a segment is tried
    abbrev with_its_list : Segment → List Level
    with_its_list t = record { more = 128 - length path; path = path; list = later c t } ∷ waiting c path

    module _ {t : SegmentNo} (here : next ≡ Some t) where
      next-tried : after (tried c n e s (128 - length path) t.0 now) (onward c n e s (128 - length path) path t.0 (with_its_list t.0))
          ≡ search c (send c n) e s (first ∷ later c first) n₀
      unfolding to_do list_of
      next-tried = sym (rest-tried c n e s _ _ _ _ _ _) ∙ (rw here at still.same)

      module _ {r : Result Tried Refusal} (now' : Now) (says : outcome_of r now' ≡ tried c n e s (128 - length path) t.0 now) where
        pub tried-refused : {why : Refusal} → r ≡ Err why → (all : Result CodeFound Refusal) (path' : List Segment) (n' : Now)
            → IsErrAnd all (λ e. e ≡ why) → found_of all path' n' ≡ search c (send c n) e s (first ∷ later c first) n₀
        tried-refused w all path' n' told = let p = err_from_is_err_and all told in rw (p.1, p.2) (rw (sym says, w) at next-tried)

        module _ {x : Tried} (w : r ≡ Ok x) {path' : List Segment} (p : path' ≡ path_after x path t.0) where
          fewer : now'.units < now.units
          fewer = kept (tried-falls c n e s _ _) now now' says w

          -- each segment pays, and the path grows by it at most
          pub tried-less : 2 * now'.units + length path' < 2 * now.units + length path
          tried-less = let u = fewer in let l = grows x path t.0 in rw p (omega arith)

          came : onward c n e s (128 - length path) path t.0 (with_its_list t.0) x now' ≡ search c (send c n) e s (first ∷ later c first) n₀
          came = rw (sym says, w) at next-tried

          pub tried-abandoned : x ≡ Abandoned → went run_abandoned now' ≡ search c (send c n) e s (first ∷ later c first) n₀
          unfolding onward give
          tried-abandoned q = rw q at came

          pub tried-failed : x ≡ Failed → {next' : Option SegmentNo} → list_of c next' ≡ later c t.0 → Still first n₀ path' next' now'
          unfolding to_do onward
          tried-failed q l = rw (p, q) (record { units = omega (arith, fewer, still.units); same = rw l (rw q at came) })

          -- it passes, to a state or to a junction
          module _ (q : x ≡ Passed) where
            pub passed-reached : {target : StateNo} → end.State target ≡ end_named (destination_kind c t.0) (destination c t.0)
                → went (reached target.0 path') now' ≡ search c (send c n) e s (first ∷ later c first) n₀
            unfolding onward leads when◌then◌else◌ give
            passed-reached is = let there = to-state c t.0 is in rw (p, q, there.1) (rw (q, there.0) at came)

            led : {j : JunctionNo} → end.Junction j ≡ end_named (destination_kind c t.0) (destination c t.0)
                → {list : List Segment} → list ≡ from_junction c j.0
                → (when eqb (length list) 0 then give ended
                else rest c n e s (record { more = 128 - length path - 1; path = path ++ (t.0 ∷ []); list = list } ∷ with_its_list t.0)) now'
                ≡ search c (send c n) e s (first ∷ later c first) n₀
            unfolding onward leads when◌then◌else◌
            led is l = let there = to-junction c t.0 is in rw (l, there.1) (rw (q, there.0) at came)

            module _ {j : JunctionNo} (is : end.Junction j ≡ end_named (destination_kind c t.0) (destination c t.0)) (next' : Option SegmentNo)
                (l : list_of c next' ≡ from_junction c j.0) where
              pub passed-ended : is_some next' ≡ false → went ended now' ≡ search c (send c n) e s (first ∷ later c first) n₀
              unfolding when◌then◌else◌ give
              passed-ended z = rw (none-there c next', z) at (led is l)

              pub passed-onward : is_some next' ≡ true → Still first n₀ path' next' now'
              unfolding when◌then◌else◌ to_do waiting
              passed-onward z =
                  let less : 128 - length path - 1 ≡ 128 - (length path + 1) = omega arith in
                  rw (p, q)
                  (record {
                    units = omega (arith, fewer, still.units);
                    same = rw (length-append, sym less, waiting-more c [] path t.0 []) (rw (none-there c next', z) at (led is l));
                  })
