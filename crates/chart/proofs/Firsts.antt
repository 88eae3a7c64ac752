-- The first number of a range that passes a test, as the code finds it by an iterator or in a loop, is the first that the test
-- keeps. Assumes nothing.
use mathlib.Core.Path.{◌≡◌, refl, ◌∙◌}
use mathlib.Core.Bool.{Bool, true, false, cond}
use mathlib.Core.List.{List, [], ◌∷◌}
use Prim.Native.Nat.{ℕ, zero, suc, ◌+◌, ◌-◌, ◌≤◌, ◌<◌}
use denote.Param.Members.{Mut}
use denote.Ref.{Bor}
use Rattle.std.specs.Prelude.{Option, Some, None}
use Rattle.std.specs.declared.ops.Range.{Range}
use Rattle.std.specs.Bool.{⊤}
use Rattle.std.specs.Fn.{CalledAt}
use Rattle.std.specs.Iterator.{YieldsThen}
use Rattle.std.specs.List.{FoldsTo, find, range_with_len}
use Rattle.std.specs.Option.{MatchOption, option_map}
use Rattle.std.proofs.iter.Yields.{nat_range_steps}
use Rattle.std.proofs.lemmas.Iterator.{YieldsList-from_range}
use Rattle.std.proofs.lemmas.Iterator.Search.{find_from_yields_List}
use Rattle.rules.specs.Lists.{when◌then◌else◌, up_from, range, keep}
use Rattle.chart.specs.Read.{first_state, first_segment}
use Rattle.chart.proofs.Ranges.{keep-pass, keep-end}

-- the first of a list
abbrev pub first_of : List ℕ → Option ℕ
first_of [] = None
first_of (x ∷ xs) = Some x

module _ (test : ℕ → Bool) where
  or-later : (x : ℕ) (t : Bool) (xs : List ℕ) → cond t (Some x) (first_of xs) ≡ first_of (when t then x ∷ xs else xs)
  unfolding when◌then◌else◌
  or-later x true xs = refl
  or-later x false xs = refl

  found-up : (a n : ℕ) → find test (range_with_len a n) ≡ first_of (keep test (up_from a n))
  unfolding keep up_from
  found-up a zero = refl
  found-up a (suc n) = rw (found-up (a + 1) n) (or-later a (test a) (keep test (up_from (a + 1) n)))

  itself : (r : Option ℕ) → r ≡ option_map (λ x. x) r
  itself None = refl
  itself (Some x) = refl

  pub found : {F : Type 0} {g : Mut F (Bor ℕ × Unit {0}) Bool} {a e : ℕ} (u : Range ℕ) (f : F) (r : Option ℕ)
      → (xs : List ℕ) × (j : F) × YieldsThen nat_range_steps (record { start = a; end = e }) xs r u
      × FoldsTo (λ p x q. CalledAt g p x false q) f xs j × MatchOption r ⊤ (λ x. (h : F) × CalledAt g j x true h)
      → ((x : ℕ) (b : Bool) (q : F) → CalledAt g f x b q → (q ≡ f) × (b ≡ test x))
      → r ≡ first_of (keep test (range a e))
  unfolding range
  found {a = a} {e = e} u f r ran one =
      itself r ∙ find_from_yields_List test u f r ran (YieldsList-from_range a e (e - a) refl refl) one ∙ found-up a (e - a)

-- that as the code numbers states
pub as_state : (xs : List ℕ) → option_map (λ n. record { 0 = n }) (first_of xs) ≡ first_state xs
unfolding first_state
as_state [] = refl
as_state (x ∷ xs) = refl

-- what a loop over the segments returns at one that passes, and at the end, where those of the start are those from here on
module _ (f : ℕ → Bool) (a e : ℕ) {those : List ℕ} (still : those ≡ keep f (range a e)) where
  pub segment-here : a < e → f a ≡ true → Some (record { 0 = a }) ≡ first_segment those
  unfolding first_segment
  segment-here h p = rw (still, keep-pass f a e h p)

  pub no-segment : e ≤ a → None ≡ first_segment those
  unfolding first_segment
  no-segment h = rw (still, keep-end f a e h)
