-- Tables of an item for each number that a junction can have: what stands in one, when two are equal, and one place written.
-- Assumes nothing.
use mathlib.Core.Path.{◌≡◌, refl, sym, ap, ◌∙◌}
use mathlib.Core.Bool.{Bool, true, false}
use mathlib.Core.List.{List, map}
use Prim.Native.Nat.{ℕ, zero, suc, ◌+◌, ◌<◌}
use native.Mathlib.Nat.{add-zero, zero-add}
use native.Mathlib.Omega.{arith}
use lib.Dec.{eqb}
use lib.ListN.{length, get_or, set, replicate, length-set, length-replicate, get_or-replicate}
use lib.Seq.{ext_get_or, get_or-set_same, get_or-set_other}
use borrow.Author.Tests.{eqb-true, eqb-false}
use Rattle.rules.specs.Lists.{up_from, below}
use Rattle.bound.specs.Sums.{table}

module _ {A : Type 0} where
  length_over : (f : ℕ → A) (a n : ℕ) → length (map f (up_from a n)) ≡ n
  unfolding up_from
  length_over f a zero = refl
  length_over f a (suc n) = ap suc (length_over f (a + 1) n)

  at-over : (d : A) (f : ℕ → A) (a n j : ℕ) → j < n → get_or (map f (up_from a n)) j d ≡ f (a + j)
  unfolding up_from
  at-over d f a zero j h = absurd (omega arith)
  at-over d f a (suc n) zero h = rw (add-zero a)
  at-over d f a (suc n) (suc j) h =
      let e : a + 1 + j ≡ a + suc j = omega arith in at-over d f (a + 1) n j (omega arith) ∙ ap f e

  pub length-table : (f : ℕ → A) → length (table f) ≡ 256
  unfolding table below
  length-table f = length_over f 0 256

  module _ (d : A) where
    pub at_table : (f : ℕ → A) (j : ℕ) → j < 256 → get_or (table f) j d ≡ f j
    unfolding table below
    at_table f j h = at-over d f 0 256 j h ∙ ap f (zero-add j)

    -- a list that has the table's items is the table
    is-table : (f : ℕ → A) (l : List A) → length l ≡ 256 → ((j : ℕ) → j < 256 → get_or l j d ≡ f j) → l ≡ table f
    is-table f l n e =
        ext_get_or d l (table f) (n ∙ sym (length-table f))
        (λ j h. e j (omega (arith, n)) ∙ sym (at_table f j (omega (arith, n))))

    -- two tables with the same items
    pub same-table : (f g : ℕ → A) → ((j : ℕ) → j < 256 → f j ≡ g j) → table f ≡ table g
    same-table f g e = is-table g (table f) (length-table f) (λ j h. at_table f j h ∙ e j h)

    pub empty-table : (f : ℕ → A) → ((j : ℕ) → f j ≡ d) → replicate 256 d ≡ table f
    empty-table f e =
        is-table f (replicate 256 d) (length-replicate {A = A} 256 d)
        (λ j h. get_or-replicate {A = A} 256 j d d h ∙ sym (e j))

    -- a table with one place written
    pub set-table : (f g : ℕ → A) (k : ℕ) {v : A} → k < 256 → v ≡ g k → ((j : ℕ) → eqb k j ≡ false → f j ≡ g j) → set (table f) k v ≡ table g
    set-table f g k {v} h e same =
        is-table g (set (table f) k v) (length-set (table f) k v ∙ length-table f) (λ j l. by j l (eqb k j) refl)
      where
        by : (j : ℕ) → j < 256 → (t : Bool) → eqb k j ≡ t → get_or (set (table f) k v) j d ≡ g j
        by j l true q =
            rw (← eqb-true k j q) (get_or-set_same (table f) k v d (rw (length-table f) h) ∙ e)
        by j l false q =
            get_or-set_other (table f) k j v d (λ r. eqb-false k j q (sym r)) ∙ at_table f j l ∙ same j q
