-- What moved: which active bits may have become others, the rest being as they were, and which state may no longer be fine.
-- Both leaving and entering are told so, child by child. Assumes nothing.
use mathlib.Core.Path.{◌≡◌, refl, ◌∙◌}
use mathlib.Core.Logic.{◌⊎◌, inl, inr}
use mathlib.Core.Bool.{Bool}
use mathlib.Core.List.Memᴰ
use mathlib.Core.List.{List, ◌∷◌}
use Prim.Native.Nat.{◌<◌}
use native.Mathlib.Decide.{ℕ_discrete}
use native.Mathlib.Omega.{arith}
use Rattle.rules.specs.Chart.{State, Chart, states, parent}
use Rattle.rules.specs.Image.{Image, is_active}
use Rattle.rules.proofs.Members.{Mem}
use Rattle.rules.proofs.Taken.{Child, Tree}
use Rattle.rules.proofs.Trees.{Below, below-le, below-trans, child-below, child-more, sibling}
use Rattle.rules.proofs.Soundness.{Sound}
use Rattle.rules.proofs.Blocks.{Quiet}
use Rattle.rules.proofs.Shape.{Fine, quiet_at, quiet-fine}

-- bits of states in M may have moved, no others, and each state that was fine is, but for p
pub record Moved (c : Chart) (M : State → Type 0) (p : State) (im₀ im : Image) : Type 0 where
  pub sound : Sound c im
  pub frame : (x : State) → x < states c → (M x → ⊥) → is_active im x ≡ is_active im₀ x
  pub fine : (x : State) → x < states c → (x ≡ p → ⊥) → Fine c (is_active im₀) x → Fine c (is_active im) x

-- those of k and of the states below it
abbrev pub MovedAt : Chart → State → Image → Image → Type 0
MovedAt c k im₀ im = Moved c (Below c k) (parent c k) im₀ im

-- those of the states below s
abbrev pub MovedBelow : Chart → State → Image → Image → Type 0
MovedBelow c s im₀ im = Moved c (λ x. Below c s x × (s < x)) s im₀ im

pub unmoved : {c : Chart} {M : State → Type 0} {p : State} {im : Image} → Sound c im → Moved c M p im im
unmoved so = record { sound = so; frame = λ x h n. refl; fine = λ x h n f. f }

module _ (c : Chart) (tr : Tree c) where
  pub moved-quiet : {M : State → Type 0} {p : State} {im₀ im₁ im : Image} → Moved c M p im₀ im₁ → Quiet c im₁ im
      → Moved c M p im₀ im
  moved-quiet {im₁ = im₁} {im = im} m q =
      record {
        sound = q.sound;
        frame = λ x h n. quiet_at c tr im₁ im q x h ∙ m.frame x h n;
        fine = λ x h n f. quiet-fine c tr im₁ im q x h (m.fine x h n f);
      }

  pub moved-child : {s k : State} {im₀ im₁ im : Image} → MovedBelow c s im₀ im₁ → Child c s k → MovedAt c k im₁ im
      → MovedBelow c s im₀ im
  moved-child a ch m =
      record {
        sound = m.sound;
        frame = λ x h n.
            m.frame x h (λ b. n (below-trans c tr (child-below c tr ch) b, omega (arith, below-le c tr b, child-more c tr ch)))
            ∙ a.frame x h n;
        fine = λ x h n f. m.fine x h (λ q. n (q ∙ ch.of)) (a.fine x h n f);
      }

  -- k is b now, and its siblings are as they were: what was b, or waits in the list, is b now, or waits in its tail
  pub turned : {s k j : State} {xs : List State} {im₁ im : Image} {b : Bool} → Child c s k → Child c s j → MovedAt c k im₁ im
      → is_active im k ≡ b → (is_active im₁ j ≡ b) ⊎ Mem j (k ∷ xs) → (is_active im j ≡ b) ⊎ Mem j xs
  turned {k = k} {j = j} ck cj m on w =
      elim (ℕ_discrete j k) [
        | yes e ↦ inl (rw e on)
        | no d ↦ elim w [
          | inl e ↦ inl (m.frame j cj.state (sibling c tr ck cj d) ∙ e)
          | inr i ↦ elim (Memᴰ.cases_cons i) [ inl e ↦ absurd (d e) | inr i ↦ inr i ]
        ]
      ]
