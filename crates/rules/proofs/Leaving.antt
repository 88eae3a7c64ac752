-- Leaving: a state that is left is off, no bit moves but its own and those below it, and each state that was fine is, but for
-- the parent; and what that costs. By the depth that is left below a state. Assumes nothing.
use mathlib.Core.Path.{◌≡◌, refl, ◌∙◌}
use mathlib.Core.Logic.{◌⊎◌, inl, inr}
use mathlib.Core.Bool.{false}
use mathlib.Core.List.Memᴰ
use mathlib.Core.List.{List, [], ◌∷◌}
use Prim.Native.Nat.{ℕ, zero, suc, ◌+◌, ◌<◌}
use native.Mathlib.Decide.{ℕ_discrete}
use native.Mathlib.Omega.{arith}
use Rattle.rules.specs.Lists.{sum_over}
use Rattle.rules.specs.Chart.{State, Chart, states, parent, keeps_history, children, children_down, exit}
use Rattle.rules.specs.Image.{Image, is_active, deactivate}
use Rattle.rules.specs.Doing.{Done, state_left}
use Rattle.rules.specs.Fire.{leave_each, parent_records, leave}
use Rattle.rules.proofs.Members.{Mem}
use Rattle.rules.proofs.Taken.{Child, Tree, Right, children_down-mem, mem-children_down, tree, exit-valid}
use Rattle.rules.proofs.Trees.{child-of-parent, here, Deep, child-more, deep-child, deep-end, low}
use Rattle.rules.proofs.Weights.{weigh, down-light}
use Rattle.rules.proofs.Soundness.{Sound, off-same, off-other, deactivate-sound, record-sound, record-active}
use Rattle.rules.proofs.Triple.{Triple, t-weak, t-post, t-more, t_from, t-if, t-then, t-done, t-pay, t-note, t-change, t-active, t-each}
use Rattle.rules.proofs.Bounded.{Bounded}
use Rattle.rules.proofs.Blocks.{Quiet, t-action}
use Rattle.rules.proofs.Shape.{fine-off, fine-but, quiet_at}
use Rattle.rules.proofs.Moving.{MovedAt, MovedBelow, unmoved, moved-quiet, moved-child, turned}

-- k was left
pub record Left (c : Chart) (k : State) (im₀ im : Image) : Type 0 where
  pub moved : MovedAt c k im₀ im
  pub gone : is_active im k ≡ false

-- the children of s were left
pub record Emptied (c : Chart) (s : State) (im₀ im : Image) : Type 0 where
  pub moved : MovedBelow c s im₀ im
  pub none : (j : State) → Child c s j → is_active im j ≡ false

-- m leaves k, for b units
abbrev pub Leaves : Chart → State → ℕ → Done → Type 0
Leaves c k b m = (im₀ : Image) → Sound c im₀ → Triple (Bounded c) b (λ im. im ≡ im₀) m (λ _. Left c k im₀)

-- what leaving a state takes, without its children
unfoldable pub leaving_cost : Chart → State → ℕ
leaving_cost c s = 1 + (exit c s).count

module _ (c : Chart) (rt : Right c) where
  tr : Tree c
  tr = tree c rt

  pub emptied-quiet : (s : State) (im₀ im₁ im : Image) → Emptied c s im₀ im₁ → Quiet c im₁ im → Emptied c s im₀ im
  emptied-quiet s im₀ im₁ im a q =
      record {
        moved = moved-quiet c tr a.moved q;
        none = λ j ch. quiet_at c tr im₁ im q j ch.state ∙ a.none j ch;
      }

  module _ (s : State) (im₀ : Image) (so : Sound c im₀) where
    -- those in xs are still to be left
    record Leaving (xs : List State) (im : Image) : Type 0 where
      moved : MovedBelow c s im₀ im
      kids : (j : State) → Mem j xs → Child c s j
      left : (j : State) → Child c s j → (is_active im j ≡ false) ⊎ Mem j xs

    next : {k : State} {xs : List State} {im : Image} → Leaving (k ∷ xs) im → Child c s k
    next {k} a = a.kids k (Memᴰ.head refl)

    leaving-left : {k : State} {xs : List State} {im₁ im : Image} → Leaving (k ∷ xs) im₁ → Left c k im₁ im → Leaving xs im
    leaving-left a l =
        record {
          moved = moved-child c tr a.moved (next a) l.moved;
          kids = λ j m. a.kids j (Memᴰ.tail m);
          left = λ j ch. turned c tr (next a) ch l.moved l.gone (a.left j ch);
        }

    leaving-end : (im : Image) → Leaving [] im → Emptied c s im₀ im
    leaving-end im a =
        record {
          moved = a.moved;
          none = λ j ch. elim (a.left j ch) [ inl e ↦ e | inr m ↦ absurd (Memᴰ.not-nil m) ];
        }

    leaving-start : (im : Image) → im ≡ im₀ → Leaving (children_down c s) im
    leaving-start im e =
        rw e
        (record {
          moved = unmoved so;
          kids = λ j m. children_down-mem c s m;
          left = λ j ch. inr (mem-children_down c s j ch);
        })

    -- a child that is not active is as one that was left
    pub t-leave_each : (w : State → ℕ) (f : State → Done) → ((k : State) → Child c s k → Leaves c k (w k) (f k))
        → Triple (Bounded c) (sum_over w (children c s)) (λ im. im ≡ im₀) (leave_each c f s) (λ _. Emptied c s im₀)
    unfolding leave_each
    t-leave_each w f leaves =
        t-more (λ x. down-light c w s)
        (t-weak leaving-start (λ _. leaving-end)
        (t-each w Leaving _ (λ k xs. t-active k
        (t_from (λ im₁ (_, a). t-post (λ _ _. leaving-left a) (leaves k (next a) im₁ a.moved.sound)))
        (λ im e a. leaving-left a (record { moved = unmoved a.moved.sound; gone = e }))) (children_down c s)))

  module _ (k : State) (h : k < states c) {im₀ : Image} where
    t-parent_records : 0 < k → Triple (Bounded c) 0 (Emptied c k im₀) (parent_records c k) (λ _. Emptied c k im₀)
    unfolding parent_records
    t-parent_records p =
        t-if (keeps_history c (parent c k)) (λ e. t-change _ (λ im a. emptied-quiet k im₀ im _ a
        (record {
          sound = record-sound c tr im _ _ (let u = tr.up k h p in omega arith) e (child-of-parent p h) a.moved.sound;
          same = record-active c tr im _ _;
        })))
        (λ e. t-done)

    left-off : {im : Image} → Emptied c k im₀ im → Left c k im₀ (deactivate im k)
    left-off {im} a =
        record {
          moved =
              record {
                sound = deactivate-sound c tr im k h a.moved.sound;
                frame = λ x l n. other x l (λ q. n (rw q here)) ∙ a.moved.frame x l (λ (b, _). n b);
                fine = λ x l n f. elim (ℕ_discrete x k) [
                  | yes e ↦
                      rw e (fine-off gone (λ j ch. other j ch.state (λ r. omega (arith, child-more c tr ch)) ∙ a.none j ch))
                  | no d ↦ fine-but other x l d n (a.moved.fine x l d f)
                ];
              };
          gone = gone;
        }
      where
        gone : is_active (deactivate im k) k ≡ false
        gone = off-same im a.moved.sound.size k (low c tr h)

        other : (x : State) → x < states c → (x ≡ k → ⊥) → is_active (deactivate im k) x ≡ is_active im x
        other x l d = off-other im a.moved.sound.size k x (low c tr h) d

  -- n levels down, with d to go
  pub t-leave : (d n : ℕ) → n + d ≡ 9 → (k : State) → 0 < k → k < states c → Deep c n k
      → Leaves c k (weigh c (leaving_cost c) d k) (leave c d k)
  unfolding leave weigh leaving_cost
  t-leave zero n e k p h deep im₀ so = absurd (deep-end c tr n k (omega arith) h deep)
  t-leave (suc d) n e k p h deep im₀ so =
      t-more (λ x. omega arith)
      (t-then t-pay
      (t-then (t-leave_each k im₀ so (weigh c (leaving_cost c) d) _
      (λ j ch. t-leave d (suc n) (omega arith) j ch.above ch.state (deep-child c tr n deep ch)))
      (t-then (t-action c tr (λ im a. a.moved.sound) (emptied-quiet k im₀) (exit c k) (exit-valid c rt k h))
      (t-then (t-parent_records k h p)
      (t-then (t-change {Q = Left c k im₀} _ (λ _. left-off k h)) (t-note state_left k))))))
