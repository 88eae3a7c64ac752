-- Demand 3's shape, state by state: it hangs on a state's own active bit and its children's alone, so a change elsewhere leaves
-- it as it was. Assumes nothing.
use mathlib.Core.Path.{◌≡◌, sym, ap, ◌∙◌}
use mathlib.Core.Bool.{Bool, true, false}
use Prim.Native.Nat.{◌<◌}
use Rattle.rules.specs.Chart.{State, Chart, states, parent, is_one_of}
use Rattle.rules.specs.Image.{Image, is_active}
use Rattle.rules.proofs.Laws.{clash}
use Rattle.rules.proofs.Taken.{Child, Tree}
use Rattle.rules.proofs.Trees.{low}
use Rattle.rules.proofs.Soundness.{Sound}
use Rattle.rules.proofs.Blocks.{Quiet}

-- at one state, for active bits A
pub record Fine (c : Chart) (A : State → Bool) (s : State) : Type 0 where
  pub idle : A s ≡ false → (k : State) → Child c s k → A k ≡ false
  pub all : A s ≡ true → is_one_of c s ≡ false → (k : State) → Child c s k → A k ≡ true
  pub one : A s ≡ true → is_one_of c s ≡ true
      → (k : State) × Child c s k × (A k ≡ true) × ((j : State) → Child c s j → A j ≡ true → j ≡ k)

pub fine-off : {c : Chart} {A : State → Bool} {s : State} → A s ≡ false → ((k : State) → Child c s k → A k ≡ false) → Fine c A s
fine-off e h = record { idle = λ q. h; all = λ q. clash q e; one = λ q. clash q e }

module _ {c : Chart} {A A' : State → Bool} where
  fine-same : {s : State} → A' s ≡ A s → ((k : State) → Child c s k → A' k ≡ A k) → Fine c A s → Fine c A' s
  fine-same e h f =
      record {
        idle = λ q k ch. h k ch ∙ f.idle (sym e ∙ q) k ch;
        all = λ q o k ch. h k ch ∙ f.all (sym e ∙ q) o k ch;
        one = λ q o. let (k, ch, a, u) = f.one (sym e ∙ q) o in (k, ch, h k ch ∙ a, λ j cj b. u j cj (sym (h j cj) ∙ b));
      }

  -- where k's bit alone is another, each is fine that was, but for k and its parent
  pub fine-but : {k : State} → ((x : State) → x < states c → (x ≡ k → ⊥) → A' x ≡ A x) → (x : State) → x < states c → (x ≡ k → ⊥)
      → (x ≡ parent c k → ⊥) → Fine c A x → Fine c A' x
  fine-but other x h d n f =
      fine-same (other x h d) (λ j ch. other j ch.state (λ q. n (sym ch.of ∙ ap (parent c) q))) f

-- the whole: all but the shape is right, the root is active, and each state is fine
pub record Good (c : Chart) (im : Image) : Type 0 where
  pub sound : Sound c im
  pub root : is_active im 0 ≡ true
  pub fine : (s : State) → s < states c → Fine c (is_active im) s

-- nothing of it changes where no active bit does
module _ (c : Chart) (tr : Tree c) (im im' : Image) (q : Quiet c im im') where
  pub quiet_at : (s : State) → s < states c → is_active im' s ≡ is_active im s
  quiet_at s h = q.same s (low c tr h)

  pub quiet-fine : (s : State) → s < states c → Fine c (is_active im) s → Fine c (is_active im') s
  quiet-fine s h f = fine-same (quiet_at s h) (λ k ch. quiet_at k ch.state) f

  pub quiet-good : Good c im → Good c im'
  quiet-good g =
      record { sound = q.sound; root = quiet_at 0 tr.some ∙ g.root; fine = λ s h. quiet-fine s h (g.fine s h) }
