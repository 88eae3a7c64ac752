-- Tests of each number of a range, as the code's iterators make them. Assumes nothing.
use mathlib.Core.Path.{◌≡◌, refl, ap, ◌∙◌}
use mathlib.Core.Bool.{Bool, true, false}
use mathlib.Core.List.{List}
use Prim.Native.Nat.{ℕ, zero, suc, ◌+◌, ◌-◌}
use native.Mathlib.Nat.{sub-zero}
use denote.Param.Members.{Mut}
use Rattle.std.specs.Prelude.{Option}
use Rattle.std.specs.declared.ops.Range.{Range}
use Rattle.std.specs.Fn.{Called}
use Rattle.std.specs.Iterator.{YieldsThen}
use Rattle.std.specs.List.{FoldsTo, list_all, range_with_len}
use Rattle.std.specs.Option.{MatchOption}
use Rattle.std.proofs.iter.Yields.{nat_range_steps}
use Rattle.std.proofs.lemmas.Iterator.{YieldsList-from_range}
use Rattle.std.proofs.lemmas.Iterator.Search.{all_from_yields_List}
use Rattle.rules.specs.Lists.{up_from, range, below, every}

module _ (test : ℕ → Bool) where
  all-up : (a n : ℕ) → list_all test (range_with_len a n) ≡ every test (up_from a n)
  unfolding every up_from
  all-up a zero = refl
  all-up a (suc n) = rw (all-up (a + 1) n)

  module _ {F : Type 0} {g : Mut F (ℕ × Unit {0}) Bool} {a e : ℕ} (u : Range ℕ) (f : F) (r : Bool)
      (ran : (xs : List ℕ) × (o : Option ℕ) × (j : F) × YieldsThen nat_range_steps (record { start = a; end = e }) xs o u
      × FoldsTo (λ p x q. Called g p (x, tt) true q) f xs j × MatchOption o (r ≡ true) (λ x. (r ≡ false) × ((h : F) × Called g j (x, tt) false h)))
      (one : (x : ℕ) (b : Bool) (q : F) → Called g f (x, tt) b q → (q ≡ f) × (b ≡ test x)) where
    pub every-between : r ≡ every test (range a e)
    unfolding range
    every-between = all_from_yields_List test u f r ran (YieldsList-from_range a e (e - a) refl refl) one ∙ all-up a (e - a)

  pub every-below : {F : Type 0} {g : Mut F (ℕ × Unit {0}) Bool} {n e : ℕ} (own : e ≡ n) (u : Range ℕ) (f : F) (r : Bool)
      (ran : (xs : List ℕ) × (o : Option ℕ) × (j : F) × YieldsThen nat_range_steps (record { start = 0; end = e }) xs o u
      × FoldsTo (λ p x q. Called g p (x, tt) true q) f xs j × MatchOption o (r ≡ true) (λ x. (r ≡ false) × ((h : F) × Called g j (x, tt) false h)))
      (one : (x : ℕ) (b : Bool) (q : F) → Called g f (x, tt) b q → (q ≡ f) × (b ≡ test x)) → r ≡ every test (below n)
  unfolding range below
  every-below own u f r ran one = every-between u f r ran one ∙ ap (λ k. every test (up_from 0 k)) (sub-zero _ ∙ own)
