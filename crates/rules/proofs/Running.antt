-- Search, run and send keep the shape; and what they cost where the chart has a bound. The search is paid by the weight W of
-- the segments it tries: W falls along a path, so no segment comes twice on one. A run is paid by its part of the bound and
-- those of the states below. Assumes nothing.
use mathlib.Core.Path.{◌≡◌, refl, ◌∙◌}
use mathlib.Core.Logic.{inl, inr}
use mathlib.Core.Bool.{true, false}
use mathlib.Core.List.Memᴰ
use mathlib.Core.List.{List, [], ◌∷◌, ◌++◌}
use Prim.Native.Nat.{ℕ, zero, suc, ◌+◌, ◌≤◌, ◌<◌}
use lib.IntN.{pos}
use native.Mathlib.Omega.{arith}
use borrow.Author.Tests.{eqb-false}
use Rattle.rules.specs.Lists.{when◌then◌else◌, below, keep, sum_over}
use Rattle.rules.specs.Chart.{State, Segment, Chart, Block, code, states, segments, during, destination, condition, condition_action, is_one_of, children, outer, inner, from_junction, starts_at, ends_on_state}
use Rattle.rules.specs.Image.{Image, is_active}
use Rattle.rules.specs.Doing.{Doing, Done, give, ◌>>=◌, segment_passed, during_point}
use Rattle.rules.specs.Block.{Ran, ran, abandoned, unless_abandoned, Delivery, send_from, perform, top, value}
use Rattle.rules.specs.Search.{Found, reached, nowhere, ended, run_abandoned, or_next, holds, passes, tries, passed, search}
use Rattle.rules.specs.Run.{follow, run_active, run_children, run_inside, run_during, run, send}
use Rattle.rules.specs.Bound.{W, G}
use Rattle.rules.proofs.Members.{Mem, keep-mem, below-mem, first-mem}
use Rattle.rules.proofs.Distinct.{Distinct, distinct_more, mem-light}
use Rattle.rules.proofs.Taken.{Tree, Right, Valid, tree, to-state, children-mem, during-valid, condition-valid, condition_action-valid}
use Rattle.rules.proofs.Weights.{weigh}
use Rattle.rules.proofs.Triple.{Claim, ◌⇒◌, Triple, t-pre, t-more, t-given, t-give, t-refuse, t-if, t_same, t-bind, t-then, t-done, t-look, t-pay, t-note, t-active, t-each-in}
use Rattle.rules.proofs.Bounded.{Bounded, falls}
use Rattle.rules.proofs.Blocks.{How, Sends, t-unless, t_block, t-send_from, Quiet, keeps-set, t-condition}
use Rattle.rules.proofs.Shape.{Good, quiet_at, quiet-good}
use Rattle.rules.proofs.Firing.{Going, Path, t-fire}

-- a path that can be fired
pub record Route (c : Chart) (path : List Segment) : Type 0 where
  pub inside : Path c path
  pub distinct : Bounded c → Distinct path

-- a path to segment t: each of it weighs more than t
pub record Way (c : Chart) (path : List Segment) (t : Segment) : Type 0 where
  pub route : Route c path
  pub real : t < segments c
  pub heavier : Bounded c → (u : Segment) → Mem u path → W c t < W c u

-- a state that was reached, and the path to it
pub record Reach (c : Chart) (s : State) (path : List Segment) : Type 0 where
  pub state : s < states c
  pub route : Route c path

-- what a search comes to
abbrev pub Got : Chart → State → Found → Claim
Got c p (reached s path) im = Reach c s path × Going c p im
Got c p nowhere im = Going c p im
Got c p ended im = Going c p im
Got c p run_abandoned im = Good c im

-- what a segment that passed costs, and what running a state costs, without its children
unfoldable pub beyond : Chart → Segment → ℕ
beyond c t = when ends_on_state c t then 0 else sum_over (W c) (from_junction c (destination c t))

unfoldable pub passed_cost : Chart → Segment → ℕ
passed_cost c t = (condition_action c t).count + beyond c t

unfoldable pub running_cost : Chart → State → ℕ
running_cost c s = 1 + (during c s).count + sum_over (W c) (outer c s) + sum_over (W c) (inner c s) + G c

module _ (c : Chart) (rt : Right c) where
  tr : Tree c
  tr = tree c rt

  abbrev pub B : Type 0
  B = Bounded c

  -- a search from p, and a run of p, for b units: each begins where p is active
  abbrev pub Finds : State → ℕ → Doing Found → Type 0
  Finds p b m = Triple B b (Going c p) m (Got c p)

  abbrev pub Runs : State → ℕ → Done → Type 0
  Runs p b m = Triple B b (Going c p) m (λ _. Good c)

  -- the segments that start on an edge of a state, or at a junction
  pub starts-path : (k n : ℕ) → Path c (keep (starts_at c k n) (below (segments c)))
  starts-path k n t m = below-mem (segments c) (keep-mem _ _ m).0

  -- one segment more on a path
  longer : {path : List Segment} {t : Segment} → Way c path t → Route c (path ++ (t ∷ []))
  longer {path} {t} w =
      record {
        inside = λ u m. elim (Memᴰ.append_cases path m)
            [ inl n ↦ w.route.inside u n | inr n ↦ rw (Memᴰ.eq_of_singleton n) w.real ];
        distinct = λ x. distinct_more path t (w.route.distinct x) (λ m. omega (arith, w.heavier x t m));
      }

  pub further : {path : List Segment} {t : Segment} (u : Segment) → Way c path t → ends_on_state c t ≡ false
      → Mem u (from_junction c (destination c t)) → Way c (path ++ (t ∷ [])) u
  unfolding from_junction
  further {path} {t} u w e m =
      record {
        route = longer w;
        real = starts-path 2 (destination c t) u m;
        heavier = λ x v n.
            let lighter = falls c x t u w.real e m in
            elim (Memᴰ.append_cases path n)
            [ inl k ↦ omega (arith, w.heavier x v k) | inr k ↦ rw (Memᴰ.eq_of_singleton k) lighter ];
      }

  pub no_way : (t : Segment) → t < segments c → Way c [] t
  no_way t h =
      record {
        route = record { inside = λ u m. absurd (Memᴰ.not-nil m); distinct = λ x. tt };
        real = h;
        heavier = λ x u m. absurd (Memᴰ.not-nil m);
      }

  -- the unit for a try, the condition and what passing costs are within the weight
  tried : (t : Segment) → t < segments c → B → 1 + (condition c t).count + passed_cost c t ≤ W c t
  unfolding passed_cost beyond
  tried t h x = omega (arith, x.weight t h)

  at-junction : (t : Segment) → ends_on_state c t ≡ false → sum_over (W c) (from_junction c (destination c t)) ≤ beyond c t
  unfolding beyond when◌then◌else◌
  at-junction t e = rw e (omega arith)

  pub going : {s : State} → s < states c → (λ im. (is_active im s ≡ true) × Good c im) ⇒ Going c s
  going h im (on, g) = (g, record { state = h; on = on })

  module _ (p : State) where
    pub going-quiet : (im₀ im : Image) → Going c p im₀ → Quiet c im₀ im → Going c p im
    going-quiet im₀ im (g, u) q =
        (quiet-good c tr im₀ im q g, record { state = u.state; on = quiet_at c tr im₀ im q p u.state ∙ u.on })

    t-top : (r : Ran) → Triple B 0 (Going c p) (unless_abandoned r (pos 0) (λ st. give (top st))) (λ _. Going c p)
    unfolding unless_abandoned
    t-top (ran st) = t_same _
    t-top abandoned = t_same _

    t-holds : (t : Segment) → t < segments c → Triple B (condition c t).count (Going c p) (holds c t) (λ _. Going c p)
    unfolding holds value unless_abandoned
    t-holds t h =
        t-if _ (λ e. t_same _)
        (λ e. t-more (λ x. omega arith)
        (t-bind {b' = 0} (t-bind {b' = 0} (t-condition c tr (λ im g. g.0.sound) going-quiet (condition c t) (condition-valid c rt t h))
        (λ r. t-top r)) (λ z. t_same _)))

    pub t-passes : (e : ℕ) (t : Segment) → t < segments c
        → Triple B (condition c t).count (Going c p) (passes c e t) (λ _. Going c p)
    unfolding passes
    t-passes e t h = t-if _ (λ q. t-holds t h) (λ q. t_same _)

    t-next : {b : ℕ} (o : Found) {m : Doing Found} → Finds p b m → Triple B b (Got c p o) (or_next o m) (Got c p)
    unfolding or_next
    t-next (reached s path) tm = t_same _
    t-next nowhere tm = tm
    t-next ended tm = t_same _
    t-next run_abandoned tm = t_same _

    t-follow : {b : ℕ} (o : Found) {m : Done} → (B → G c ≤ b) → Runs p b m
        → Triple B b (Got c p o) (follow c p o m) (λ _. Good c)
    unfolding follow
    t-follow (reached s path) l tm = t-more l (t-given (λ r. t-fire c rt p s path r.route.inside r.route.distinct))
    t-follow nowhere l tm = tm
    t-follow ended l tm = tm
    t-follow run_abandoned l tm = t-done

  module _ (deliver : Delivery) (ss : Sends c (Good c) deliver (λ _. Good c)) (e : ℕ) where
    module _ (p : State) (h : p < states c) where
      -- a block that p owns
      pub t-owns : (k : Block) → Valid c k
          → Triple B k.count (Going c p) (perform (send_from p deliver) [] (code c k)) (How (Going c p) (Good c))
      t-owns k v =
          t_block c tr (Going c p) (Good c) (keeps-set c tr (λ im g. g.0.sound) (going-quiet p))
          (t-send_from c p (λ im g on. going h im (on, g)) (λ never e b l. t-pre (λ im g. g.0) (ss never e b l))) k v

      -- and what follows it where p is still there
      t-owned : {A : Type 0} {b : ℕ} {Q : A → Claim} {m : Doing A} (k : Block) → Valid c k → (a : A) → Good c ⇒ Q a
          → Triple B b (Going c p) m Q
          → Triple B (k.count + b) (Going c p)
          (perform (send_from p deliver) [] (code c k) >>= (λ r. unless_abandoned r a (λ _. m))) Q
      t-owned k v a back tm = t-bind (t-owns k v) (λ r. t-unless r a back (λ _. tm))

      pub t-tries : (f : Segment → Doing Found) (path : List Segment)
          → ((t : Segment) → Way c path t → Finds p (passed_cost c t) (f t)) → (ts : List Segment)
          → ((t : Segment) → Mem t ts → Way c path t) → Finds p (sum_over (W c) ts) (tries c deliver e p f ts)
      unfolding tries sum_over
      t-tries f path tf [] ways = t_same _
      t-tries f path tf (t ∷ ts) ways =
          let w = ways t (Memᴰ.head refl) in
          t-more (λ x. omega (arith, tried t w.real x))
          (t-then t-pay
          (t-bind (t-passes p e t w.real)
          (λ b. t-bind (t-if b (λ q. tf t w) (λ q. t_same _))
          (λ o. t-next p o (t-tries f path tf ts (λ u m. ways u (Memᴰ.tail m)))))))

      pub t-passed : (n : ℕ) (path : List Segment) (t : Segment) → Way c path t
          → Finds p (passed_cost c t) (passed c deliver e p n path t)
      unfolding passed passed_cost
      t-passed zero path t w = t-refuse 19 (λ q. omega arith)
      t-passed (suc n) path t w =
          t-more (λ x. omega arith)
          (t-then (t-note segment_passed t)
          (t-owned (condition_action c t) (condition_action-valid c rt t w.real) run_abandoned (λ im g. g)
          (t-if _ (λ q. t-give _ (λ im g. (record { state = to-state c rt t w.real q; route = longer w }, g)))
          (λ q. t-if _ (λ z. t_same _)
          (λ z. t-more (λ x. at-junction t q)
          (t-tries _ (path ++ (t ∷ [])) (λ u v. t-passed n (path ++ (t ∷ [])) u v) (from_junction c (destination c t))
          (λ u m. further u w q m)))))))

      pub t-search : (ts : List Segment) → Path c ts → Finds p (sum_over (W c) ts) (search c deliver e p ts)
      unfolding search
      t-search ts v = t-tries _ [] (t-passed 128 []) ts (λ t m. no_way t (v t m))

      module _ (w : State → ℕ) (f : State → Done) (tf : (s : State) → s < states c → Runs s (w s) (f s)) where
        -- where a child s costs w s
        abbrev children_cost : ℕ
        children_cost = sum_over w (children c p)

        abbrev inside_cost : ℕ
        inside_cost = sum_over (W c) (inner c p) + (G c + children_cost)

        t-child : (s : State) → Mem s (children c p)
            → Triple B (w s) (λ im. (is_active im s ≡ true) × Good c im) (f s) (λ _. Good c)
        t-child s m = let l = (children-mem c p m).state in t-pre (going l) (tf s l)

        t-one : (a : Image) (s : State) → Mem s (children c p) → is_active a s ≡ true
            → Triple B children_cost (λ im. (a ≡ im) × Going c p im) (f s) (λ _. Good c)
        t-one a s m on =
            t-more (λ x. mem-light w s (children c p) m) (t-pre (λ im g. (rw g.0 at on, g.1.0)) (t-child s m))

        t-run_active : Runs p children_cost (run_active c f p)
        unfolding run_active
        t-run_active =
            t-more (λ x. omega arith)
            (t-bind {b' = children_cost} t-look (λ a. t-if _ (λ z. t-pre (λ im g. g.1.0) t-done)
            (λ z. elim (first-mem (is_active a) (children c p))
            [ inl q ↦ absurd (eqb-false _ 0 z q) | inr q ↦ t-one a _ q.0 q.1 ])))

        t-run_children : Runs p children_cost (run_children c f p)
        unfolding run_children
        t-run_children =
            t-if (is_one_of c p) (λ q. t-run_active)
            (λ q. t-pre (λ im g. g.0) (t-each-in w _ (children c p) (λ s m. t-active s (t-child s m) (λ im z g. g))))

        t-run_inside : Runs p inside_cost (run_inside c deliver e f p)
        unfolding run_inside inner
        t-run_inside =
            t-bind (t-search (inner c p) (starts-path 1 p))
            (λ o. t-follow p o (λ x. omega arith) (t-more (λ x. omega arith) t-run_children))

        t-run_during : Runs p ((during c p).count + inside_cost) (run_during c deliver e f p)
        unfolding run_during
        t-run_during =
            t-more (λ x. omega arith)
            (t-then (t-note during_point p) (t-owned (during c p) (during-valid c rt p h) tt (λ im g. g) t-run_inside))

    pub t-run : (d : ℕ) (p : State) → p < states c → Runs p (weigh c (running_cost c) d p) (run c deliver e d p)
    unfolding run weigh running_cost outer
    t-run zero p h = t-pre (λ im g. g.0) t-done
    t-run (suc d) p h =
        t-more (λ x. omega arith)
        (t-then t-pay
        (t-bind (t-search p h (outer c p) (starts-path 0 p))
        (λ o. t-follow p o (λ x. omega arith) (t-run_during p h (λ s. weigh c (running_cost c) d s) _ (λ s l. t-run d s l)))))

  pub t-send : (n : ℕ) → Sends c (Good c) (send c n) (λ _. Good c)
  unfolding send
  t-send zero never e b h = t-active b (t-refuse 18 (λ q. omega arith)) (λ im z g. g)
  t-send (suc n) never e b h =
      t-active b
      (t-more (λ x. absurd (never x)) (t-pre (going h) (t-run _ (λ nev e' b' h'. t-send n nev e' b' h') e 9 b h)))
      (λ im z g. g)

  -- a started lift stays well shaped
  pub t-started : (e : ℕ) → Triple (Bounded c) (weigh c (running_cost c) 9 0) (Going c 0) (run c (send c 8) e 9 0) (λ _. Good c)
  t-started e = t-run (send c 8) (t-send 8) e 9 0 tr.some
