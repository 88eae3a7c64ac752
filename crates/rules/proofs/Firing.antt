-- Firing keeps the shape, at the cost of at most G: the arena is active, so what is left below it can be entered again, and a
-- path on which no segment comes twice performs no more than all transition actions. Assumes nothing.
use mathlib.Core.Path.{◌≡◌, refl, ap, ◌∙◌}
use mathlib.Core.Logic.{inl, inr}
use mathlib.Core.Bool.{Bool, true, ◌&&◌}
use mathlib.Core.List.Memᴰ
use mathlib.Core.List.{List}
use Prim.Native.Nat.{ℕ, zero, suc, ◌+◌, ◌≤◌, ◌<◌}
use native.Mathlib.Decide.{ℕ_discrete}
use native.Mathlib.Omega.{arith}
use lib.Dec.{eqb}
use Rattle.rules.specs.Lists.{when◌then◌else◌, below, first, sum_over}
use Rattle.rules.specs.Chart.{State, Segment, Chart, deepest, states, segments, parent, transition_action, children, lineage}
use Rattle.rules.specs.Image.{Image, is_active}
use Rattle.rules.specs.Doing.{each, transition_performed}
use Rattle.rules.specs.Fire.{leave, enter, arena, common, transit, fire}
use Rattle.rules.specs.Bound.{G}
use Rattle.rules.proofs.Laws.{clash, two}
use Rattle.rules.proofs.Members.{Mem, first-mem, else-mem, mem_below}
use Rattle.rules.proofs.Distinct.{Distinct, light}
use Rattle.rules.proofs.Taken.{Tree, Right, tree, transition_action-valid}
use Rattle.rules.proofs.Trees.{child-of-parent}
use Rattle.rules.proofs.Sums.{sum_both}
use Rattle.rules.proofs.Weights.{weigh, weigh-children}
use Rattle.rules.proofs.Triple.{Triple, t-post, t-more, t_from, t-then, t-note, t-each-in}
use Rattle.rules.proofs.Bounded.{Bounded}
use Rattle.rules.proofs.Blocks.{t-action}
use Rattle.rules.proofs.Shape.{Good}
use Rattle.rules.proofs.Leaving.{Emptied, emptied-quiet, leaving_cost, t-leave_each, t-leave}
use Rattle.rules.proofs.Entering.{Bare, Filled, entering_cost, t-enter_each, t-enter}

-- s is an active state
pub record Up (c : Chart) (im : Image) (s : State) : Type 0 where
  pub state : s < states c
  pub on : is_active im s ≡ true

-- the shape holds, and s is active
abbrev pub Going : Chart → State → Image → Type 0
Going c s im = Good c im × Up c im s

abbrev pub Path : Chart → List Segment → Type 0
Path c path = (t : Segment) → Mem t path → t < segments c

abbrev transit_cost : Chart → Segment → ℕ
transit_cost c t = (transition_action c t).count

module _ (c : Chart) (rt : Right c) where
  tr : Tree c
  tr = tree c rt

  module _ (im : Image) (g : Good c im) where
    pub up_root : Up c im 0
    up_root = record { state = tr.some; on = g.root }

    -- what is above an active state is active
    up-parent : (s : State) → Up c im s → Up c im (parent c s)
    up-parent zero u = rw tr.top u
    up-parent (suc s) u =
        let h : parent c (suc s) < states c = omega (arith, tr.up (suc s) u.state (omega arith)) in
        record {
          state = h;
          on = elim (two (is_active im (parent c (suc s)))) [
            | inl e ↦ e
            | inr e ↦ clash u.on ((g.fine _ h).idle e _ (child-of-parent (omega arith) u.state))
          ];
        }

    up-lineage : (n : ℕ) (s : State) → Up c im s → (x : State) → Mem x (lineage c n s) → Up c im x
    unfolding lineage
    up-lineage zero s u x m = rw (Memᴰ.eq_of_singleton m) u
    up-lineage (suc n) s u x m =
        elim (Memᴰ.cases_cons m) [
          | inl e ↦ rw e u
          | inr m ↦ up-lineage n (parent c s) (up-parent s u) x (else-mem (eqb s 0) m).1
        ]

    up_first : (s : State) → Up c im s → (f : State → Bool) → Up c im (first f (lineage c deepest s))
    up_first s u f =
        elim (first-mem f (lineage c deepest s)) [ inl e ↦ rw e up_root | inr m ↦ up-lineage deepest s u _ m.0 ]

    pub up-arena : (source target : State) (path : List Segment) → Up c im source → Up c im (arena c source target path)
    unfolding arena common when◌then◌else◌
    up-arena source target path u =
        elim (two (eqb source target && eqb source (common c source target path)))
        [ inl e ↦ rw e (up-parent source u) | inr e ↦ rw e (up_first source u _) ]

  t-transit : (a : State) (im₀ : Image) (t : Segment) → t < segments c
      → Triple (Bounded c) (transit_cost c t) (Emptied c a im₀) (transit c t) (λ _. Emptied c a im₀)
  unfolding transit
  t-transit a im₀ t h =
      t-more (λ x. omega arith)
      (t-then (t-note transition_performed t)
      (t-action c tr (λ im e. e.moved.sound) (emptied-quiet c rt a im₀) (transition_action c t)
      (transition_action-valid c rt t h)))

  t-transits : (a : State) (im₀ : Image) (path : List Segment) → Path c path
      → Triple (Bounded c) (sum_over (transit_cost c) path) (Emptied c a im₀) (each (transit c) path) (λ _. Emptied c a im₀)
  t-transits a im₀ path v = t-each-in (transit_cost c) (transit c) path (λ t m. t-transit a im₀ t (v t m))

  emptied-bare : {a : State} {im₀ im : Image} → Good c im₀ → Up c im₀ a → Emptied c a im₀ im → Bare c a im
  emptied-bare {a} g u e =
      record {
        sound = e.moved.sound;
        on = e.moved.frame a u.state (λ (b, l). omega arith) ∙ u.on;
        none = e.none;
        fine = λ x h l. e.moved.fine x h (λ q. omega arith) (g.fine x h);
      }

  filled-good : {a : State} {im₀ im₁ im : Image} → Good c im₀ → Emptied c a im₀ im₁ → Filled c a im₁ im → Good c im
  filled-good {a} g e f =
      record {
        sound = f.moved.sound;
        root = f.moved.frame 0 tr.some (λ (b, l). omega arith)
            ∙ e.moved.frame 0 tr.some (λ (b, l). omega arith) ∙ g.root;
        fine = λ x h. elim (ℕ_discrete x a) [
          | yes q ↦ rw q f.self
          | no d ↦ f.moved.fine x h d (e.moved.fine x h d (g.fine x h))
        ];
      }

  -- G: all states left and entered, all transition actions
  G-is : G c
      ≡ sum_over (leaving_cost c) (below (states c)) + sum_over (entering_cost c) (below (states c))
      + sum_over (transit_cost c) (below (segments c))
  unfolding G leaving_cost entering_cost
  G-is =
      ap (λ (n : ℕ). n + sum_over (transit_cost c) (below (segments c)))
      (sum_both _ (leaving_cost c) (entering_cost c) (below (states c)) (λ s. omega arith))

  pub entering-within : sum_over (entering_cost c) (below (states c)) ≤ G c
  entering-within = omega (arith, G-is)

  within-G : (a : State) (path : List Segment) → a < states c → Path c path → Distinct path
      → sum_over (weigh c (leaving_cost c) 9) (children c a)
      + (sum_over (transit_cost c) path + sum_over (weigh c (entering_cost c) 9) (children c a)) ≤ G c
  within-G a path h v d =
      let left = weigh-children c tr (leaving_cost c) 9 a h in
      let came = weigh-children c tr (entering_cost c) 9 a h in
      let passed = light (transit_cost c) path (below (segments c)) d (λ t m. mem_below (segments c) t (v t m)) in
      omega (arith, G-is)

  pub t-fire : (source target : State) (path : List Segment) → Path c path → (Bounded c → Distinct path)
      → Triple (Bounded c) (G c) (Going c source) (fire c source target path) (λ _. Good c)
  unfolding fire
  t-fire source target path v d = t_from (λ im₀ (g, u). go im₀ g (up-arena im₀ g source target path u))
    where
      a : State
      a = arena c source target path

      go : (im₀ : Image) → Good c im₀ → Up c im₀ a
          → Triple (Bounded c) (G c) (λ im. im ≡ im₀) (fire c source target path) (λ _. Good c)
      go im₀ g u =
          t-more (λ x. within-G a path u.state v (d x))
          (t-then (t-leave_each c rt a im₀ g.sound (weigh c (leaving_cost c) 9) (leave c 9)
          (λ k ch. t-leave c rt 9 0 refl k ch.above ch.state tt))
          (t-then (t-transits a im₀ path v)
          (t_from (λ im₁ e. t-post (λ _ _. filled-good g e)
          (t-enter_each c rt target a im₁ u.state (emptied-bare g u e) (weigh c (entering_cost c) 9) (enter c 9 target)
          (λ k ch. t-enter c rt 9 0 refl target k ch.state tt))))))
