-- An accepted image is sound, and not started or of demand 3's shape; and what is sound and of that shape is accepted. The
-- shape as a count of active children, which acceptance tests, is the shape state by state, which the proofs use. Assumes
-- nothing.
use mathlib.Core.Path.{◌≡◌, refl, sym, ap, ◌∙◌}
use mathlib.Core.Logic.{inl, inr}
use mathlib.Core.Bool.{Bool, true, false, ◌&&◌, not}
use mathlib.Core.List.Memᴰ
use mathlib.Core.List.{List, [], ◌∷◌}
use Prim.Native.Nat.{ℕ}
use native.Mathlib.Omega.{arith}
use lib.Dec.{eqb}
use lib.ListN.{length}
use borrow.Author.Tests.{eq-eqb, eqb-true, not-true}
use Rattle.rules.specs.Lists.{when◌then◌else◌, range, every, all, keep}
use Rattle.rules.specs.Chart.{State, Chart, states, variables, is_one_of, keeps_history, children}
use Rattle.rules.specs.Image.{Image, is_active, recorded, not_started, rest_zero, history_sound, shape_at, shape, accepted}
use Rattle.rules.proofs.Laws.{both, and_left, and_right, and_both, or_cases, or_left, or_right, clash}
use Rattle.rules.proofs.Members.{Mem, keep-mem, mem-keep, is_in-mem, mem-is_in, every-below, below-every, every-range, range-every, keep-none, keep_all, none_kept, all-kept}
use Rattle.rules.proofs.Distinct.{Distinct, keep-distinct}
use Rattle.rules.proofs.Taken.{children-mem, mem-children, each_of}
use Rattle.rules.proofs.Soundness.{Recordable, Sound}
use Rattle.rules.proofs.Shape.{Fine, Good}
use Rattle.rules.proofs.Weights.{children-distinct}

-- all members of a list without repeats are k: it has one; and the other way round
alone : (xs : List ℕ) → Distinct xs → (k : ℕ) → Mem k xs → ((j : ℕ) → Mem j xs → j ≡ k) → length xs ≡ 1
alone [] d k m same = absurd (Memᴰ.not-nil m)
alone (x ∷ []) d k m same = refl
alone (x ∷ (y ∷ ys)) d k m same =
    absurd (d.0 (Memᴰ.head (same x (Memᴰ.head refl) ∙ sym (same y (Memᴰ.tail (Memᴰ.head refl))))))

single : (xs : List ℕ) → length xs ≡ 1 → (k : ℕ) × Mem k xs × ((j : ℕ) → Mem j xs → j ≡ k)
single [] e = absurd (omega arith)
single (x ∷ []) e = (x, Memᴰ.head refl, λ j m. Memᴰ.eq_of_singleton m)
single (x ∷ (y ∷ ys)) e = absurd (omega arith)

-- how many children of s are to be active, where s is active or not, one-of or not
unfoldable pub wanted : Chart → State → Bool → Bool → ℕ
wanted c s active one_of = when active then (when one_of then 1 else length (children c s)) else 0

module _ (c : Chart) (im : Image) (s : State) where
  -- the active children
  abbrev active : List State
  active = keep (is_active im) (children c s)

  pub fine-count : Fine c (is_active im) s → (a o : Bool) → is_active im s ≡ a → is_one_of c s ≡ o → length active ≡ wanted c s a o
  unfolding wanted when◌then◌else◌
  fine-count f true true p q =
      let (k, ch, on, only) = f.one p q in
      alone _ (keep-distinct _ _ (children-distinct c s)) k (mem-keep _ _ (mem-children c s k ch) on)
      (λ j m. let (n, e) = keep-mem (is_active im) (children c s) m in only j (children-mem c s n) e)
  fine-count f true false p q = ap length (keep_all _ _ (λ j m. f.all p q j (children-mem c s m)))
  fine-count f false o p q = ap length (keep-none _ _ (λ j m. f.idle p j (children-mem c s m)))

  pub count-fine : length active ≡ wanted c s (is_active im s) (is_one_of c s) → Fine c (is_active im) s
  unfolding wanted when◌then◌else◌
  count-fine e =
      record {
        idle = λ a k ch. none_kept (is_active im) (children c s) (rw a at e) (mem-children c s k ch);
        all = λ a o k ch. all-kept (is_active im) (children c s) (rw (a, o) at e) (mem-children c s k ch);
        one = λ a o.
            let (k, m, only) = single active (rw (a, o) at e) in
            let (n, on) = keep-mem (is_active im) (children c s) m in
            (k, children-mem c s n, on, λ j ch q. only j (mem-keep _ _ (mem-children c s j ch) q));
      }

  shape-fine : shape_at im c s ≡ true → Fine c (is_active im) s
  unfolding shape_at wanted
  shape-fine e = count-fine (eqb-true _ _ e)

  fine-shape : Fine c (is_active im) s → shape_at im c s ≡ true
  unfolding shape_at wanted
  fine-shape f = eq-eqb _ _ (fine-count f (is_active im s) (is_one_of c s) refl refl)

  history-sound : history_sound im c s ≡ true → Recordable c s (recorded im s)
  unfolding history_sound
  history-sound e =
      elim (or_cases (eqb (recorded im s) 0) _ e) [
        | inl q ↦ inl (eqb-true _ _ q)
        | inr q ↦ let (k, m) = both (keeps_history c s) _ q in inr (k, children-mem c s (is_in-mem _ _ m))
      ]

  sound-history : Recordable c s (recorded im s) → history_sound im c s ≡ true
  unfolding history_sound
  sound-history (inl e) = or_left (eqb (recorded im s) 0) _ (eq-eqb _ _ e)
  sound-history (inr (k, ch)) =
      or_right (eqb (recorded im s) 0) _ (and_both (keeps_history c s) _ k (mem-is_in _ _ (mem-children c s _ ch)))

module _ (c : Chart) (im : Image) where
  abbrev unused : State → Bool
  unused s = not (is_active im s) && eqb (recorded im s) 0

  rest-zero : Sound c im → rest_zero im c ≡ true
  unfolding rest_zero
  rest-zero so =
      and_both (every unused (range (states c) 64)) _
      (range-every unused (states c) 64
      (λ s p q. and_both (not (is_active im s)) _ (ap not (so.no_state s p q)) (eq-eqb _ _ (so.no_record s p q))))
      (range-every _ (variables c) 32 (λ v p q. eq-eqb _ _ (so.no_variable v p q)))

  pub sound : accepted im c ≡ true → Sound c im
  unfolding accepted rest_zero
  sound e =
      let (no_states, no_variables) = both (every unused (range (states c) 64)) _ (each_of _ e 2 (omega arith)) in
      let idle = every-range unused (states c) 64 no_states in
      record {
        size = eqb-true (length im) 202 (each_of _ e 0 (omega arith));
        mark = each_of _ e 1 (omega arith);
        no_state = λ s p q. not-true _ (and_left (not (is_active im s)) _ (idle s p q));
        no_record = λ s p q. eqb-true _ _ (and_right (not (is_active im s)) _ (idle s p q));
        no_variable = λ v p q. eqb-true _ _ (every-range _ (variables c) 32 no_variables v p q);
        records = λ s h. history-sound c im s (every-below (history_sound im c) (states c) (each_of _ e 3 (omega arith)) s h);
      }

  shape-good : Sound c im → shape im c ≡ true → Good c im
  unfolding shape
  shape-good so e =
      let (root, shapes) = both (is_active im 0) _ e in
      record { sound = so; root = root; fine = λ s h. shape-fine c im s (every-below (shape_at im c) (states c) shapes s h) }

  good-shape : Good c im → shape im c ≡ true
  unfolding shape
  good-shape g =
      and_both (is_active im 0) _ g.root (below-every (shape_at im c) (states c) (λ s h. fine-shape c im s (g.fine s h)))

  -- not started, or of that shape
  pub started-good : accepted im c ≡ true → not_started im ≡ false → Good c im
  unfolding accepted
  started-good e f =
      elim (or_cases (not_started im) _ (each_of _ e 4 (omega arith))) [ inl q ↦ clash q f | inr q ↦ shape-good (sound e) q ]

  pub good-accepted : Good c im → accepted im c ≡ true
  unfolding accepted all every
  good-accepted g =
      let history = below-every (history_sound im c) (states c) (λ s h. sound-history c im s (g.sound.records s h)) in
      rw (g.sound.size, g.sound.mark, rest-zero g.sound, history, or_right (not_started im) _ (good-shape g))
