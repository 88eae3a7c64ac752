-- From the definitions to the rules: where a run, a send or a step goes, 002's rules, as 01 narrows them, go. A run begins where
-- its state is active and the shape holds, and finds both again wherever a rule asks for them. Assumes nothing.
use mathlib.Core.Path.{◌≡◌, refl}
use mathlib.Core.Logic.{inl, inr}
use mathlib.Core.Bool.{true}
use mathlib.Core.List.Memᴰ
use mathlib.Core.List.{List, [], ◌∷◌}
use Prim.Native.Nat.{ℕ, zero, suc, ◌+◌, ◌<◌}
use native.Mathlib.Omega.{arith}
use lib.Dec.{eqb}
use borrow.Author.Tests.{ne_eqb}
use Rattle.rules.specs.Lists.{when◌then◌else◌, first}
use Rattle.rules.specs.Chart.{State, Segment, Chart, states, during, is_one_of, children, outer, inner, code}
use Rattle.rules.specs.Image.{Image, is_active, not_started, accepted}
use Rattle.rules.specs.Doing.{Now, done, pay, during_point, note, each, when_active}
use Rattle.rules.specs.Block.{Stack, Ran, ran, abandoned, unless_abandoned, send_from, perform}
use Rattle.rules.specs.Search.{Found, reached, nowhere, ended, run_abandoned, search}
use Rattle.rules.specs.Fire.{levels, leave_each, leave, arena, transit, fire}
use Rattle.rules.specs.Run.{follow, run_active, run_children, run_inside, run_during, run, send, start, step}
use Rattle.rules.proofs.Laws.{two, clash}
use Rattle.rules.proofs.Members.{Mem, mem-is_in, first-only}
use Rattle.rules.proofs.Taken.{Child, Tree, Right, tree, children-mem, mem-children, during-valid}
use Rattle.rules.proofs.Trees.{Deep, deep-child, deep-end}
use Rattle.rules.proofs.Soundness.{Sound}
use Rattle.rules.proofs.Blocks.{How}
use Rattle.rules.proofs.Shape.{Good}
use Rattle.rules.proofs.Firing.{Going, Path, Up, up_root, up-arena}
use Rattle.rules.proofs.Running.{Reach, Got, starts-path, going, t-send, t-owns, t-search, t-run}
use Rattle.rules.proofs.Accepting.{sound, started-good}
use Rattle.semantics.specs.Relation as R
use Rattle.semantics.specs.Relation.{⇝a, ⇝at, ⇝tl, ⇝exC, ⇝enC, ⇝runS, ⇝runC, ⇝runSL, ⇝Ch, ◌⊢◌, Gives, Goes, Descent, NoState, failed, terminal}
use Rattle.semantics.proofs.Inverting.{kept, paid, noted, then-inv, bind_inv, give-inv, done-inv, look-inv, refuse-inv, choose-inv, active-inv, idle-inv, none-inv, more-inv}
use Rattle.semantics.proofs.Actions.{transits-sound, transits-kept}
use Rattle.semantics.proofs.Exits.{Standing, emptied-sound, leave_each-sound}
use Rattle.semantics.proofs.Towards.{descent, arena-below}
use Rattle.semantics.proofs.Entries.{enter-sound, enter_each-sound}
use Rattle.semantics.proofs.Sends.{Dispatch, sent, unsent, SendsSound, perform-sound}
use Rattle.semantics.proofs.Searching.{Gone, search-sound}

module _ (c : Chart) (rt : Right c) where
  tr : Tree c
  tr = tree c rt

  -- the active child of an active one-of state
  pub active-child : (p : State) (im : Image) → Going c p im → is_one_of c p ≡ true
      → (q : State) × Child c p q × (is_active im q ≡ true) × (first (is_active im) (children c p) ≡ q)
      × ((j : State) → Child c p j → is_active im j ≡ true → j ≡ q)
  active-child p im (g, u) o =
      let (q, ch, a, only) = (g.fine p u.state).one u.on o in
      let is = first-only (is_active im) (children c p) q (mem-children c p q ch) a (λ x m y. only x (children-mem c p m) y) in
      (q, ch, a, is, only)

  -- the lists of a state's edges
  pub outer-real : (p : State) → Path c (outer c p)
  unfolding outer
  outer-real p = starts-path c rt 0 p

  pub inner-real : (p : State) → Path c (inner c p)
  unfolding inner
  inner-real p = starts-path c rt 1 p

  -- what holds behind a state's list
  pub searched-kept : (k e : ℕ) (p : State) (ts : List Segment) → Path c ts → {n n' : Now} {o : Found}
      → Gives (search c (send c k) e p ts) n o n' → Going c p n.image → Got c p o n'.image
  searched-kept k e p ts real w g = kept (t-search c rt (send c k) (t-send c rt k) e p g.1.state ts real) w g

  -- and behind its during action, where that does not abandon it
  pub during-kept : (k e : ℕ) (p : State) {n n₁ n₂ : Now} {r : Ran} → Goes (note during_point p) n n₁
      → Gives (perform (send_from p (send c k)) [] (code c (during c p))) n₁ r n₂ → Going c p n.image
      → How (Going c p) (Good c) r n₂.image
  during-kept k e p i a g =
      let h = g.1.state in
      kept (t-owns c rt (send c k) (t-send c rt k) e p h (during c p) (during-valid c rt p h)) a
      (noted (Going c p) during_point p i g)

  -- the arena stands
  pub standing : {s : State} {im : Image} → Good c im → Up c im s → Standing c s im
  standing g u = record { sound = g.sound; on = u.on; fine = λ x h l. g.fine x h }

  -- between the arena's exit and its entry the image is sound
  pub transit-sound : (a : State) (path : List Segment) → Path c path → {n n₁ n₂ : Now} → Sound c n.image
      → Goes (leave_each c (leave c levels) a) n n₁ → Goes (each (transit c) path) n₁ n₂ → Sound c n₂.image
  transit-sound a path real s x y = transits-kept c rt path real y (emptied-sound c rt 9 0 refl a (λ k ch. tt) x s)

  -- a path is fired by the last premises of runS and runS2
  record Fired (p s : State) (path : List Segment) (n n' : Now) : Type 0 where
    left : Now
    between : Now
    way : List State
    exits : c ⊢ ⇝exC (arena c p s path) n left
    acts : c ⊢ ⇝at p path left between
    down : Descent c (arena c p s path) way s
    enters : c ⊢ ⇝enC way (arena c p s path) between n'

  fire-sound : (p s : State) (path : List Segment) → Reach c s path → {n n' : Now} → Going c p n.image
      → Goes (fire c p s path) n n' → Fired p s path n n'
  unfolding fire
  fire-sound p s path r {n} (g, u) w =
      let b₁ = then-inv _ _ w in
      let b₂ = then-inv _ _ b₁.behind in
      let a = up-arena c rt n.image g p s path u in
      let (h, d) = descent c rt (arena-below c rt p s path u.state r.state) in
      record {
        left = b₁.mid;
        between = b₂.mid;
        way = h;
        exits = leave_each-sound c rt _ a.state (standing g a) b₁.before;
        acts = transits-sound c rt p path r.route.inside
            (emptied-sound c rt 9 0 refl _ (λ k ch. tt) b₁.before g.sound) b₂.before;
        down = d;
        enters = enter_each-sound c rt s r.state _ h (inl d) a.state b₂.behind
            (transit-sound _ path r.route.inside g.sound b₁.before b₂.before);
      }

-- what a state's list comes to
abbrev Came : Chart → ℕ → ℕ → State → List Segment → Now → Now → Found → Type 0
Came c k e p ts n n' (reached h path) = c ⊢ ⇝tl k e p 0 ts n n' (reached h path)
Came c k e p ts n n' nowhere = (o : Found) × (c ⊢ ⇝tl k e p 0 ts n n' o) × NoState o
Came c k e p ts n n' ended = (o : Found) × (c ⊢ ⇝tl k e p 0 ts n n' o) × NoState o
Came c k e p ts n n' run_abandoned = c ⊢ ⇝tl k e p 0 ts n n' run_abandoned

came : (c : Chart) (k e : ℕ) (p : State) (ts : List Segment) (n n' : Now) (o : Found) → Gone c k e p 0 ts n n' o
    → Came c k e p ts n n' o
came c k e p [] n n' (reached h path) (a, b) = let z : ◌≡◌ {A = ℕ} 0 1 = cc in absurd (omega arith)
came c k e p [] n n' nowhere (a, b) = (ended, rw b R.Ter, terminal)
came c k e p [] n n' ended (a, b) = (ended, rw b R.Ter, terminal)
came c k e p [] n n' run_abandoned (a, b) = let z : ◌≡◌ {A = ℕ} 0 1 = cc in absurd (omega arith)
came c k e p (t ∷ ts) n n' (reached h path) x = x
came c k e p (t ∷ ts) n n' nowhere x = (nowhere, x, failed)
came c k e p (t ∷ ts) n n' ended x = (ended, x, terminal)
came c k e p (t ∷ ts) n n' run_abandoned x = x

module _ (c : Chart) (rt : Right c) (k : ℕ) (sends : SendsSound c k) (e : ℕ) where
  -- what a state's list of segments comes to
  searched : (p : State) (ts : List Segment) → Path c ts → {n n' : Now} {o : Found} → Going c p n.image
      → Gives (search c (send c k) e p ts) n o n' → Came c k e p ts n n' o
  searched p ts real {n} {n'} {o} g w =
      came c k e p ts n n' o (search-sound c rt k e p g.1.state sends ts real n n' o g w)

  -- n levels down, with d to go
  module _ (d n : ℕ)
      (runs : (s : State) → Deep c n s → (m m' : Now) → Going c s m.image → Goes (run c (send c k) e d s) m m'
      → c ⊢ ⇝runS k e s m m') where
    each-runs : (xs : List State) → ((s : State) → Mem s xs → (s < states c) × Deep c n s) → {m m' : Now} → Good c m.image
        → Goes (each (λ s. when_active s (run c (send c k) e d s)) xs) m m' → c ⊢ ⇝runSL k e xs m m'
    each-runs [] deep g w = rw (none-inv _ w) R.runSL0
    each-runs (x ∷ xs) deep {m} {m'} g w =
        let b = more-inv _ x xs w in
        let (h, dx) = deep x (Memᴰ.head refl) in
        let rest : (s : State) → Mem s xs → (s < states c) × Deep c n s = λ s i. deep s (Memᴰ.tail i) in
        elim (two (is_active m.image x)) [
          | inl a ↦
              let v = active-inv x (run c (send c k) e d x) a b.before in
              let gx = going c rt h m.image (a, g) in
              R.runSL a (runs x dx m b.mid gx v)
              (each-runs xs rest (kept (t-run c rt (send c k) (t-send c rt k) e d x h) v gx) b.behind)
          | inr a ↦
              let same : m ≡ b.mid = idle-inv x (run c (send c k) e d x) a b.before in
              R.runSLN a (each-runs xs rest g (rw (← same) at b.behind))
        ]

    children-run : (p : State) → ((s : State) → Child c p s → Deep c n s) → {m m' : Now} → Going c p m.image
        → Goes (run_children c (run c (send c k) e d) p) m m' → c ⊢ ⇝runC k e p m m'
    unfolding run_children run_active
    children-run p deep {m} {m'} g w =
        elim (choose-inv _ _ _ w) [
          | inl (o, v) ↦
              let (q, ch, a, is, only) = active-child c rt p m.image g o in
              let b = bind_inv _ _ v in
              let (x, y) = look-inv b.before in
              let u : Goes (when eqb q 0 then done else run c (send c k) e d q) m m' = rw (x, y, is) at b.behind in
              elim (choose-inv _ _ _ u) [
                | inl (z, t) ↦ clash z (ne_eqb q 0 (λ r. omega arith))
                | inr (z, t) ↦
                    R.runO o (record { child = mem-is_in q (children c p) (mem-children c p q ch); active = a })
                    (runs q (deep q ch) m m' (going c rt ch.state m.image (a, g.0)) t)
              ]
          | inr (o, v) ↦
              R.runA o (each-runs (children c p) (λ s i. let ch = children-mem c p i in (ch.state, deep s ch)) g.0 v)
        ]

    module _ (p : State) (deep : (s : State) → Child c p s → Deep c n s) {m m₁ : Now} (pd : Goes pay m m₁) where
      -- after the during action
      inside : {m₂ m₃ m₄ m₅ m₆ : Now} {o : Found} {st : Stack} (o' : Found) → c ⊢ ⇝tl k e p 0 (outer c p) m₁ m₂ o → NoState o
          → Goes (note during_point p) m₂ m₃ → c ⊢ ⇝a k p [] (code c (during c p)) m₃ m₄ (ran st)
          → Came c k e p (inner c p) m₄ m₅ o'
          → Got c p o' m₅.image → Goes (follow c p o' (run_children c (run c (send c k) e d) p)) m₅ m₆ → c ⊢ ⇝runS k e p m m₆
      unfolding follow
      inside (reached t path) x none i a y (r, g) w =
          let f = fire-sound c rt p t path r g w in R.runS2 pd x none i a y f.exits f.acts f.down f.enters
      inside nowhere x none i a (o, y, none') g w = R.runS3 pd x none i a y none' (children-run p deep g w)
      inside ended x none i a (o, y, none') g w = R.runS3 pd x none i a y none' (children-run p deep g w)
      inside run_abandoned x none i a y g w = rw (← done-inv w) (R.runE3 pd x none i a y)

      acted : {m₂ m₃ m₄ m₅ : Now} {o : Found} (r : Ran) → c ⊢ ⇝tl k e p 0 (outer c p) m₁ m₂ o → NoState o
          → Goes (note during_point p) m₂ m₃ → c ⊢ ⇝a k p [] (code c (during c p)) m₃ m₄ r → How (Going c p) (Good c) r m₄.image
          → Goes (unless_abandoned r tt (λ _. run_inside c (send c k) e (run c (send c k) e d) p)) m₄ m₅ → c ⊢ ⇝runS k e p m m₅
      unfolding unless_abandoned run_inside
      acted (ran st) x none i a g w =
          let b = bind_inv _ _ w in
          inside b.gave x none i a (searched p (inner c p) (inner-real c rt p) g b.before)
          (searched-kept c rt k e p (inner c p) (inner-real c rt p) b.before g) b.behind
      acted abandoned x none i a g w = rw (← (give-inv w).1) (R.runE2 pd x none i a)

      -- no outer segment reached a state
      during-runs : {m₂ m₃ : Now} {o : Found} → c ⊢ ⇝tl k e p 0 (outer c p) m₁ m₂ o → NoState o → Going c p m₂.image
          → Goes (run_during c (send c k) e (run c (send c k) e d) p) m₂ m₃ → c ⊢ ⇝runS k e p m m₃
      unfolding run_during
      during-runs x none g w =
          let b₁ = then-inv _ _ w in
          let b₂ = bind_inv _ _ b₁.behind in
          let valid = during-valid c rt p g.1.state in
          let g₁ = noted (Going c p) during_point p b₁.before g in
          acted b₂.gave x none b₁.before
          (perform-sound c rt k p sends [] (code c (during c p)) _ _ _ valid.operands g₁ b₂.before)
          (during-kept c rt k e p b₁.before b₂.before g) b₂.behind

      followed : {m₂ m₃ : Now} (o : Found) → Came c k e p (outer c p) m₁ m₂ o → Got c p o m₂.image
          → Goes (follow c p o (run_during c (send c k) e (run c (send c k) e d) p)) m₂ m₃ → c ⊢ ⇝runS k e p m m₃
      unfolding follow
      followed (reached t path) x (r, g) w =
          let f = fire-sound c rt p t path r g w in R.runS pd x f.exits f.acts f.down f.enters
      followed nowhere (o, x, none) g w = during-runs x none g w
      followed ended (o, x, none) g w = during-runs x none g w
      followed run_abandoned x g w = rw (← done-inv w) (R.runE1 pd x)

  pub run_sound : (d n : ℕ) → n + d ≡ 9 → (p : State) → Deep c n p → (m m' : Now) → Going c p m.image
      → Goes (run c (send c k) e d p) m m' → c ⊢ ⇝runS k e p m m'
  unfolding run
  run_sound zero n l p deep m m' g w = absurd (deep-end c (tree c rt) n p (omega arith) g.1.state deep)
  run_sound (suc d) n l p deep m m' g w =
      let b₁ = then-inv _ _ w in
      let b₂ = bind_inv _ _ b₁.behind in
      let g₁ = paid (Going c p) b₁.before g in
      let deeper : (s : State) → Child c p s → Deep c (suc n) s = λ s ch. deep-child c (tree c rt) n deep ch in
      followed d (suc n) (run_sound d (suc n) (omega arith)) p deeper b₁.before b₂.gave
      (searched p (outer c p) (outer-real c rt p) g₁ b₂.before)
      (searched-kept c rt k e p (outer c p) (outer-real c rt p) b₂.before g₁) b₂.behind

module _ (c : Chart) (rt : Right c) where
  pub send-sound : (k e : ℕ) (b : State) (n n' : Now) → b < states c → Good c n.image → Goes (send c k e b) n n'
      → Dispatch c k e b n n'
  unfolding send
  send-sound zero e b n n' h g w =
      elim (two (is_active n.image b)) [
        | inl a ↦ refuse-inv 18 (active-inv b _ a w)
        | inr a ↦ rw (← idle-inv b _ a w) (unsent a)
      ]
  send-sound (suc k) e b n n' h g w =
      elim (two (is_active n.image b)) [
        | inl a ↦
            sent a (run_sound c rt k (send-sound k) e 9 0 refl b tt n n' (going c rt h n.image (a, g)) (active-inv b _ a w))
        | inr a ↦ rw (← idle-inv b _ a w) (unsent a)
      ]

  pub step-sound : (e : ℕ) (n n' : Now) → accepted n.image c ≡ true → Goes (step c e) n n' → c ⊢ ⇝Ch e n n'
  unfolding step start when◌then◌else◌
  step-sound e n n' a w =
      elim (two (not_started n.image)) [
        | inl s ↦
            R.Start s (enter-sound c rt 0 (tree c rt).some 9 0 refl 0 [] (inl R.here) (tree c rt).some tt n n'
            (record { is = rw s at w.is }) (sound c n.image a)).0
        | inr s ↦
            let g = started-good c n.image a s in
            R.Ch s (run_sound c rt 8 (send-sound 8) e 9 0 refl 0 tt n n' (g, up_root c rt n.image g)
            (record { is = rw s at w.is }))
      ]
