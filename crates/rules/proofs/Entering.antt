-- Entering: a state that is entered is on and fine, no other bit moves but its own and those below it, and each state that was
-- fine is, but for the parent; and what that costs. The children that are entered are distinct ones: all, or one. Assumes
-- nothing.
use mathlib.Core.Path.{◌≡◌, refl, sym, ◌∙◌}
use mathlib.Core.Logic.{◌⊎◌, inl, inr, ⊎_map}
use mathlib.Core.Bool.{true, false}
use mathlib.Core.List.Memᴰ
use mathlib.Core.List.{List, [], ◌∷◌}
use Prim.Native.Nat.{ℕ, zero, suc, ◌+◌, ◌≤◌, ◌<◌}
use native.Mathlib.Decide.{ℕ_discrete}
use native.Mathlib.Omega.{arith}
use Rattle.rules.specs.Lists.{when◌then◌else◌, sum_over, ◌else◌}
use Rattle.rules.specs.Chart.{State, Chart, states, parent, initial, is_one_of, children, entry, over}
use Rattle.rules.specs.Image.{Image, is_active, recorded, activate}
use Rattle.rules.specs.Doing.{Done, state_entered}
use Rattle.rules.specs.Fire.{on_the_way, to_enter, enter_each, enter}
use Rattle.rules.proofs.Laws.{two, clash, not_yes}
use Rattle.rules.proofs.Members.{Mem, first-mem}
use Rattle.rules.proofs.Distinct.{Distinct, light}
use Rattle.rules.proofs.Taken.{Child, Tree, Right, children-mem, mem-children, tree, entry-valid}
use Rattle.rules.proofs.Trees.{here, Deep, child-more, sibling, deep-child, deep-end, low}
use Rattle.rules.proofs.Weights.{weigh, children-distinct}
use Rattle.rules.proofs.Soundness.{Sound, on_same, on-other, activate-sound}
use Rattle.rules.proofs.Triple.{Triple, t-weak, t-post, t-more, t_from, t-bind, t-then, t-pay, t-note, t-change, t-look, t-each}
use Rattle.rules.proofs.Bounded.{Bounded}
use Rattle.rules.proofs.Blocks.{Quiet, t-action}
use Rattle.rules.proofs.Shape.{Fine, fine-but}
use Rattle.rules.proofs.Moving.{MovedAt, MovedBelow, unmoved, moved-child, turned}

-- which children of s may be entered: all, or one
record Choice (c : Chart) (s : State) (ks : List State) : Type 0 where
  kids : (j : State) → Mem j ks → Child c s j
  distinct : Distinct ks
  all : is_one_of c s ≡ false → (j : State) → Child c s j → Mem j ks
  one : is_one_of c s ≡ true → (k : State) × Mem k ks × ((j : State) → Mem j ks → j ≡ k)

-- k and what is below it can be entered
pub record Idle (c : Chart) (k : State) (im : Image) : Type 0 where
  pub sound : Sound c im
  pub off : is_active im k ≡ false
  pub fine : (x : State) → x < states c → k ≤ x → Fine c (is_active im) x

-- k was entered
pub record Came (c : Chart) (k : State) (im₀ im : Image) : Type 0 where
  pub moved : MovedAt c k im₀ im
  pub on : is_active im k ≡ true
  pub self : Fine c (is_active im) k

-- s is active, and its children are to be entered
pub record Bare (c : Chart) (s : State) (im : Image) : Type 0 where
  pub sound : Sound c im
  pub on : is_active im s ≡ true
  pub none : (j : State) → Child c s j → is_active im j ≡ false
  pub fine : (x : State) → x < states c → s < x → Fine c (is_active im) x

-- they were entered
pub record Filled (c : Chart) (s : State) (im₀ im : Image) : Type 0 where
  pub moved : MovedBelow c s im₀ im
  pub self : Fine c (is_active im) s

-- m enters k, for b units
abbrev pub Enters : Chart → State → ℕ → Done → Type 0
Enters c k b m = (im₀ : Image) → Idle c k im₀ → Triple (Bounded c) b (λ im. im ≡ im₀) m (λ _. Came c k im₀)

-- what entering a state takes, without its children
unfoldable pub entering_cost : Chart → State → ℕ
entering_cost c s = 1 + (entry c s).count

module _ (c : Chart) (rt : Right c) where
  tr : Tree c
  tr = tree c rt

  else-child : (s a b : State) → (a ≡ 0) ⊎ Child c s a → Child c s b → Child c s (a else b)
  unfolding ◌else◌
  else-child s zero b p ch = ch
  else-child s (suc a) b (inl e) ch = absurd (omega arith)
  else-child s (suc a) b (inr ch) _ = ch

  on-the-way : (s target : State) → (on_the_way c s target ≡ 0) ⊎ Child c s (on_the_way c s target)
  unfolding on_the_way
  on-the-way s target = ⊎_map (λ e. e) (λ m. children-mem c s m.0) (first-mem (λ k. over c k target) (children c s))

  choice : (s target : State) (im : Image) → s < states c → Sound c im → Choice c s (to_enter c s target im)
  unfolding to_enter when◌then◌else◌
  choice s target im h so =
      elim (two (is_one_of c s)) [
        | inl o ↦ rw o
            (record {
              kids = λ j m. rw (Memᴰ.eq_of_singleton m) (kid o);
              distinct = (Memᴰ.not-nil, tt);
              all = λ e. clash o e;
              one = λ e. (_, Memᴰ.head refl, λ j m. Memᴰ.eq_of_singleton m);
            })
        | inr o ↦ rw o
            (record {
              kids = λ j m. children-mem c s m;
              distinct = children-distinct c s;
              all = λ e j ch. mem-children c s j ch;
              one = λ e. clash e o;
            })
      ]
    where
      kid : is_one_of c s ≡ true → Child c s (on_the_way c s target else recorded im s else initial c s)
      kid o =
          else-child s _ _ (on-the-way s target)
          (else-child s _ _ (⊎_map (λ e. e) (λ p. p.1) (so.records s h)) (tr.initials s h o))

  module _ (target s : State) (im₀ : Image) (h : s < states c) (ba : Bare c s im₀) where
    abbrev ks : List State
    ks = to_enter c s target im₀

    picks : Choice c s ks
    picks = choice s target im₀ h ba.sound

    -- those in xs are still to be entered
    record Entering (xs : List State) (im : Image) : Type 0 where
      moved : MovedBelow c s im₀ im
      chosen : (j : State) → Mem j xs → Mem j ks
      distinct : Distinct xs
      came : (j : State) → Mem j ks → (is_active im j ≡ true) ⊎ Mem j xs
      active : (j : State) → Child c s j → is_active im j ≡ true → Mem j ks × (Mem j xs → ⊥)

    next : {k : State} {xs : List State} {im : Image} → Entering (k ∷ xs) im → Child c s k
    next {k} a = picks.kids k (a.chosen k (Memᴰ.head refl))

    entering-came : {k : State} {xs : List State} {im₁ im : Image} → Entering (k ∷ xs) im₁ → Came c k im₁ im → Entering xs im
    entering-came {k} a g =
        record {
          moved = moved-child c tr a.moved (next a) g.moved;
          chosen = λ j m. a.chosen j (Memᴰ.tail m);
          distinct = a.distinct.1;
          came = λ j m. turned c tr (next a) (picks.kids j m) g.moved g.on (a.came j m);
          active = λ j cj e. elim (ℕ_discrete j k) [
            | yes q ↦ rw q (a.chosen k (Memᴰ.head refl), a.distinct.0)
            | no d ↦
                let (m, n) = a.active j cj (sym (g.moved.frame j cj.state (sibling c tr (next a) cj d)) ∙ e) in
                (m, λ i. n (Memᴰ.tail i))
          ];
        }

    entering-idle : {k : State} {xs : List State} {im : Image} → Entering (k ∷ xs) im → Idle c k im
    entering-idle {k} {im = im} a =
        record {
          sound = a.moved.sound;
          off = not_yes (is_active im k) (λ e. (a.active k (next a) e).1 (Memᴰ.head refl));
          fine = λ x l g.
              let m = child-more c tr (next a) in
              a.moved.fine x l (λ e. omega arith) (ba.fine x l (omega arith));
        }

    entering-end : (im : Image) → Entering [] im → Filled c s im₀ im
    entering-end im a =
        record {
          moved = a.moved;
          self =
              record {
                idle = λ q. clash (a.moved.frame s h (λ (b, l). omega arith) ∙ ba.on) q;
                all = λ q o j cj. came j (picks.all o j cj);
                one = λ q o. let (k, m, u) = picks.one o in (k, picks.kids k m, came k m, λ j cj e. u j (a.active j cj e).0);
              };
        }
      where
        came : (j : State) → Mem j ks → is_active im j ≡ true
        came j m = elim (a.came j m) [ inl e ↦ e | inr n ↦ absurd (Memᴰ.not-nil n) ]

    entering-start : (im : Image) → im ≡ im₀ → Entering ks im
    entering-start im e =
        rw e
        (record {
          moved = unmoved ba.sound;
          chosen = λ j m. m;
          distinct = picks.distinct;
          came = λ j m. inr m;
          active = λ j cj q. clash q (ba.none j cj);
        })

    pub t-enter_each : (w : State → ℕ) (f : State → Done) → ((k : State) → Child c s k → Enters c k (w k) (f k))
        → Triple (Bounded c) (sum_over w (children c s)) (λ im. im ≡ im₀) (enter_each c f target s) (λ _. Filled c s im₀)
    unfolding enter_each
    t-enter_each w f enters =
        t-more (λ x. omega (arith, light w ks (children c s) picks.distinct (λ k m. mem-children c s k (picks.kids k m))))
        (t-bind {b' = sum_over w ks} t-look (λ a. t_from (λ im p. rw (p.0, p.1)
        (t-weak entering-start (λ _. entering-end)
        (t-each w Entering f (λ k xs. t_from (λ im₁ a.
        t-post (λ _ _. entering-came a) (enters k (next a) im₁ (entering-idle a)))) ks)))))

  quiet_then : (im₀ im₁ im : Image) → Quiet c im₀ im₁ → Quiet c im₁ im → Quiet c im₀ im
  quiet_then im₀ im₁ im p q = record { sound = q.sound; same = λ t l. q.same t l ∙ p.same t l }

  parent-le : (k : State) → k < states c → parent c k ≤ k
  parent-le zero h = omega (arith, tr.top)
  parent-le (suc k) h = omega (arith, tr.up (suc k) h (omega arith))

  -- ready: k was made active, its children not yet
  module _ {k : State} (h : k < states c) {im₀ im₁ : Image} (a : Idle c k im₀) (q : Quiet c (activate im₀ k) im₁) where
    ready_on : is_active im₁ k ≡ true
    ready_on = q.same k (low c tr h) ∙ on_same im₀ a.sound.size k (low c tr h)

    ready-other : (x : State) → x < states c → (x ≡ k → ⊥) → is_active im₁ x ≡ is_active im₀ x
    ready-other x l d = q.same x (low c tr l) ∙ on-other im₀ a.sound.size k x (low c tr h) d

    ready-bare : Bare c k im₁
    ready-bare =
        record {
          sound = q.sound;
          on = ready_on;
          none = λ j ch.
              ready-other j ch.state (λ e. omega (arith, child-more c tr ch)) ∙ (a.fine k h (omega arith)).idle a.off j ch;
          fine = λ x l g.
              fine-but ready-other x l (λ e. omega arith) (λ e. omega (arith, parent-le k h)) (a.fine x l (omega arith));
        }

    ready-came : (im : Image) → Filled c k im₁ im → Came c k im₀ im
    ready-came im g =
        record {
          moved =
              record {
                sound = g.moved.sound;
                frame = λ x l n. g.moved.frame x l (λ (b, _). n b) ∙ ready-other x l (λ e. n (rw e here));
                fine = λ x l n f. elim (ℕ_discrete x k) [
                  | yes e ↦ rw e g.self
                  | no d ↦ g.moved.fine x l d (fine-but ready-other x l d n f)
                ];
              };
          on = g.moved.frame k h (λ (b, l). omega arith) ∙ ready_on;
          self = g.self;
        }

  -- n levels down, with d to go
  pub t-enter : (d n : ℕ) → n + d ≡ 9 → (target k : State) → k < states c → Deep c n k
      → Enters c k (weigh c (entering_cost c) d k) (enter c d target k)
  unfolding enter weigh entering_cost
  t-enter zero n e target k h deep im₀ a = absurd (deep-end c tr n k (omega arith) h deep)
  t-enter (suc d) n e target k h deep im₀ a =
      t-more (λ x. omega arith)
      (t-then t-pay
      (t-then (t-change {Q = Quiet c (activate im₀ k)} _ (λ im q.
      rw q (record { sound = activate-sound c tr im₀ k h a.sound; same = λ t l. refl })))
      (t-then (t-note state_entered k)
      (t-then (t-action c tr (λ im q. q.sound) (quiet_then (activate im₀ k)) (entry c k) (entry-valid c rt k h))
      (t_from (λ im₁ q. t-post (λ _. ready-came h a q)
      (t-enter_each target k im₁ h (ready-bare h a q) (weigh c (entering_cost c) d) (enter c d target)
      (λ j ch. t-enter d (suc n) (omega arith) target j ch.state (deep-child c tr n deep ch)))))))))
