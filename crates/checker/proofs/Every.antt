-- What `all` answers over a range or a slice is whether every number passes, as the rules say it. Assumes nothing.
use Rattle.std.proofs.Common.{◌≡◌, refl, sym, ◌∙◌, ℕ, zero, suc, ◌+◌, ◌-◌, Bool, true, false, List, [], ◌∷◌, map, Option}
use native.Mathlib.Nat.{sub-zero}
use Rattle.std.proofs.lemmas.Iterator.{YieldsList-from_range, YieldsList-from_slice}
use Rattle.std.proofs.lemmas.Iterator.Search.{all_from_yields_List}
use Rattle.std.proofs.iter.Yields.{nat_range_steps, fronts}
use Rattle.std.specs.List.{list_all, range_with_len, FoldsTo}
use Rattle.std.specs.Fn.{Called}
use Rattle.std.specs.Iterator.{YieldsThen}
use Rattle.std.specs.Option.{MatchOption}
use Rattle.std.specs.declared.ops.Range.{Range}
use denote.Param.Members.{Mut}
use denote.Ref.{Bor}
use Rattle.std.specs.Slice.Iter.{iter_rest}
use Rattle.std.specs.declared.slice.Iter.{Iter}
use Rattle.rules.specs.Lists.{up_from, below, every}

every-up : (f : ℕ → Bool) (a n : ℕ) → list_all f (range_with_len a n) ≡ every f (up_from a n)
unfolding every up_from
every-up f a zero = refl
every-up f a (suc n) = rw (every-up f (a + 1) n)

every-in : {A : Type 0} (f : A → Bool) (xs : List A) → list_all f xs ≡ every f xs
unfolding every
every-in f [] = refl
every-in f (x ∷ xs) = rw (every-in f xs)

every_map : {A B : Type 0} (f : B → Bool) (h : A → B) (xs : List A) → every f (map h xs) ≡ every (λ x. f (h x)) xs
unfolding every
every_map f h [] = refl
every_map f h (x ∷ xs) = rw (every_map f h xs)

-- what `all` answers, r, after it called a test: on the items xs it said yes, and on the next, if any, no
abbrev pub Answered : {S A F : Type 0} → (S → Option A → S → Type 0) → Mut F (A × Unit {0}) Bool → S → S → F → Bool → Type 0
Answered {S} {A} {F} steps g i u f r =
    (xs : List A) × (o : Option A) × (j : F) × YieldsThen steps i xs o u × FoldsTo (λ p x q. Called g p (x, tt) true q) f xs j
    × MatchOption o (r ≡ true) (λ x. (r ≡ false) × ((h : F) × Called g j (x, tt) false h))

-- the answers that the called test may give, and that it stays as it is
abbrev pub Said : {A F : Type 0} → Mut F (A × Unit {0}) Bool → F → (A → Bool) → Type 0
Said {A} {F} g f test = (x : A) (b : Bool) (q : F) → Called g f (x, tt) b q → (q ≡ f) × (b ≡ test x)

-- over a slice
pub all_in : {F : Type 0} {g : Mut F (Bor ℕ × Unit {0}) Bool} (test : ℕ → Bool) (s : List ℕ) {i : Iter ℕ} (u : Iter ℕ) (f : F) (r : Bool)
    → Answered fronts g i u f r → iter_rest i ≡ s → Said g f (λ x. test x.now) → r ≡ every test s
all_in test s u f r ran e said = all_from_yields_List test u f r ran (YieldsList-from_slice s e) said ∙ every-in test s

-- over the numbers from a on, before b
pub all_up : {F : Type 0} {g : Mut F (ℕ × Unit {0}) Bool} (test : ℕ → Bool) (a n : ℕ) {b : ℕ} (u : Range ℕ) (f : F) (r : Bool)
    → Answered nat_range_steps g (record { start = a; end = b }) u f r → b - a ≡ n → Said g f test
    → r ≡ every test (up_from a n)
all_up test a n {b} u f r ran e said =
    all_from_yields_List test u f r ran (YieldsList-from_range a b n refl e) said ∙ every-up test a n

-- and of what h makes of each of them
pub all_mapped : {A F : Type 0} {g : Mut F (ℕ × Unit {0}) Bool} (test : A → Bool) (h : ℕ → A) (a n : ℕ) {b : ℕ} (u : Range ℕ) (f : F) (r : Bool)
    → Answered nat_range_steps g (record { start = a; end = b }) u f r → b - a ≡ n → Said g f (λ x. test (h x))
    → r ≡ every test (map h (up_from a n))
all_mapped test h a n u f r ran e said = all_up (λ x. test (h x)) a n u f r ran e said ∙ sym (every_map test h (up_from a n))

-- over those below a count
pub all_below : {F : Type 0} {g : Mut F (ℕ × Unit {0}) Bool} (test : ℕ → Bool) {n m : ℕ} (u : Range ℕ) (f : F) (r : Bool)
    → Answered nat_range_steps g (record { start = 0; end = n }) u f r → n ≡ m → Said g f test → r ≡ every test (below m)
unfolding below
all_below test {n} {m} u f r ran e said = all_up test 0 m u f r ran (sub-zero n ∙ e) said
