-- The shape in the demand's words, by counts of active children, and state by state, as the proofs have it: in a taken chart each
-- gives the other. Assumes nothing.
use mathlib.Core.Path.{◌≡◌, refl}
use mathlib.Core.Bool.{Bool, true, false}
use Prim.Native.Nat.{◌≤◌, ◌<◌}
use native.Mathlib.Decide.{ℕ_discrete}
use native.Mathlib.Omega.{arith}
use lib.ListN.{length}
use borrow.Author.Tests.{eq-eqb, ne_eqb, eqb-true, eqb-false}
use Rattle.rules.specs.Lists.{when◌then◌else◌, keep}
use Rattle.rules.specs.Chart.{State, Chart, states, kind, is_one_of, children}
use Rattle.rules.specs.Image.{Image, is_active}
use Rattle.rules.proofs.Members.{keep-length}
use Rattle.rules.proofs.Taken.{Right, tree}
use Rattle.rules.proofs.Shape.{Fine}
use Rattle.rules.proofs.Accepting.{wanted, fine-count, count-fine}
use Rattle.promises.specs.Many.{active_children, WellShaped}

module _ (c : Chart) (im : Image) where
  pub fine-shaped : is_active im 0 ≡ true → ((s : State) → s < states c → Fine c (is_active im) s) → WellShaped c im
  unfolding active_children wanted when◌then◌else◌
  fine-shaped root fine =
      record {
        root = root;
        one_of = λ s h a k. fine-count c im s (fine s h) true true a (eq-eqb (kind c s) 1 k);
        all_of = λ s h a k. fine-count c im s (fine s h) true false a (ne_eqb (kind c s) 1 (λ q. omega arith));
        inactive = λ s h a. fine-count c im s (fine s h) false (is_one_of c s) a refl;
      }

  pub shaped-fine : Right c → WellShaped c im → (s : State) → s < states c → Fine c (is_active im) s
  unfolding active_children wanted when◌then◌else◌
  shaped-fine rt w s h = count-fine c im s (counted (is_active im s) (is_one_of c s) refl refl)
    where
      none : length (keep (is_active im) (children c s)) ≤ length (children c s)
      none = keep-length (is_active im) (children c s)

      counted : (a o : Bool) → is_active im s ≡ a → is_one_of c s ≡ o
          → active_children c im s ≡ wanted c s (is_active im s) (is_one_of c s)
      counted true true p q = rw (p, q) (w.one_of s h p (eqb-true (kind c s) 1 q))
      counted true false p q = rw (p, q) (every (ℕ_discrete (kind c s) 2))
        where
          every : Dec (kind c s ≡ 2) → active_children c im s ≡ length (children c s)
          every (yes e) = w.all_of s h p e
          every (no d) =
              let l = (tree c rt).leaves s h (omega (arith, (tree c rt).kinds s h, eqb-false (kind c s) 1 q)) in
              omega (arith, none)
      counted false o p q = rw p (w.inactive s h p)
