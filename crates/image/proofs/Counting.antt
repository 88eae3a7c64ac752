-- Counting in one walk over the states, for each number that a parent can be, how many states name it. Counts are right up
-- to state k; they stay right past k when one is added wherever k counts, and nowhere else. Assumes nothing.
use mathlib.Core.Path.{◌≡◌, refl, sym, ap, ◌∙◌}
use mathlib.Core.Bool.{Bool, true, false, ◌&&◌}
use mathlib.Core.List.{List, [], ◌∷◌, ◌++◌, append-nil}
use Prim.Native.Nat.{ℕ, zero, suc, ◌+◌, ◌-◌, ◌≤◌, ◌<◌}
use native.Mathlib.Nat.{add-zero}
use native.Mathlib.Omega.{arith}
use lib.Dec.{eqb}
use lib.ListN.{length, replicate, set, length-append, length-set, get_or-replicate}
use lib.Seq.{get_or-set_same, get_or-set_other}
use borrow.Author.Tests.{eqb-true, eqb-false}
use Rattle.rules.specs.Lists.{when◌then◌else◌, up_from, range, keep}
use Rattle.rules.specs.Chart.{State, Chart, states, parent, children, is_one_of}
use Rattle.rules.specs.Image.{Image, is_active, shape_at}
use Rattle.rules.proofs.Members.{keep-length}
use Rattle.rules.proofs.Distinct.{up-length}
use Rattle.chart.proofs.Ranges.{range-end}
use Rattle.image.specs.Counted.{Counted, count_of, one_more}
use Rattle.image.specs.declared.shape.Children.{Children}
use Rattle.image.specs.declared.shape.Count.{Count}

-- a range grows at its end
up_more : (a n : ℕ) → up_from a (suc n) ≡ up_from a n ++ ((a + n) ∷ [])
unfolding up_from
up_more a zero = rw (add-zero a)
up_more a (suc n) =
    let e : a + 1 + n ≡ a + suc n = omega arith in
    ap (λ (l : List ℕ). a ∷ l) (up_more (a + 1) n) ∙ ap (λ (m : ℕ). a ∷ up_from (a + 1) n ++ (m ∷ [])) e

range-more : (a k : ℕ) → a ≤ k → range a (k + 1) ≡ range a k ++ (k ∷ [])
unfolding range
range-more a k h =
    let q : k + 1 - a ≡ suc (k - a) = omega arith in
    let e : a + (k - a) ≡ k = omega arith in
    rw (q, up_more a (k - a), e)

-- what a test keeps: of two lists, and of a range with one more at its end
test-append : (t : Bool) (x : ℕ) (l m : List ℕ) → (when t then x ∷ (l ++ m) else (l ++ m)) ≡ (when t then x ∷ l else l) ++ m
unfolding when◌then◌else◌
test-append true x l m = refl
test-append false x l m = refl

module _ (f : ℕ → Bool) where
  keep_append : (xs ys : List ℕ) → keep f (xs ++ ys) ≡ keep f xs ++ keep f ys
  unfolding keep
  keep_append [] ys = refl
  keep_append (x ∷ xs) ys = rw (keep_append xs ys) (test-append (f x) x (keep f xs) (keep f ys))

  module _ (a k : ℕ) (h : a ≤ k) where
    counted : f k ≡ true → length (keep f (range a (k + 1))) ≡ length (keep f (range a k)) + 1
    unfolding keep when◌then◌else◌
    counted p = rw (range-more a k h, keep_append (range a k) (k ∷ []), p) (length-append (keep f (range a k)) (k ∷ []))

    passed : f k ≡ false → length (keep f (range a (k + 1))) ≡ length (keep f (range a k))
    unfolding keep when◌then◌else◌
    passed p = rw (range-more a k h, keep_append (range a k) (k ∷ []), p, append-nil (keep f (range a k)))

-- what two tests keep, one after the other
test-again : (g : ℕ → Bool) (t : Bool) (x : ℕ) (l : List ℕ) → keep g (when t then x ∷ l else l) ≡ (when t && g x then x ∷ keep g l else keep g l)
unfolding keep when◌then◌else◌
test-again g true x l = refl
test-again g false x l = refl

keep-again : (f g : ℕ → Bool) (xs : List ℕ) → keep g (keep f xs) ≡ keep (λ s. f s && g s) xs
unfolding keep
keep-again f g [] = refl
keep-again f g (x ∷ xs) = rw (test-again g (f x) x (keep f xs), keep-again f g xs)

-- counts that are right up to k: for each number p of a byte, how many of the numbers from 1 on the test of p keeps
pub record Tally (f : State → State → Bool) (k : ℕ) (n : State → ℕ) : Type 0 where
  pub counts : (p : State) → p < 256 → n p ≡ length (keep (f p) (range 1 k))

module _ (f : State → State → Bool) where
  none-counted : {n : State → ℕ} → ((p : State) → p < 256 → n p ≡ 0) → Tally f 1 n
  unfolding keep
  none-counted e = record { counts = λ p h. e p h ∙ rw (range-end 1 1 (omega arith)) }

  module _ {k : ℕ} {n : State → ℕ} (t : Tally f k n) where
    -- there is room for one more
    pub tally-room : k < 256 → (q : State) → q < 256 → n q < 255
    unfolding range
    tally-room h q hq = omega (arith, t.counts q hq, keep-length (f q) (range 1 k), up-length 1 (k - 1))

    -- k counts wherever its test passes
    tally-turn : 1 ≤ k → {next : State → ℕ} → ((p : State) → p < 256 → next p ≡ (when f p k then n p + 1 else n p)) → Tally f (k + 1) next
    unfolding when◌then◌else◌
    tally-turn from {next} e = record { counts = λ p h. by p h (f p k) refl }
      where
        by : (p : State) → p < 256 → (u : Bool) → f p k ≡ u → next p ≡ length (keep (f p) (range 1 (k + 1)))
        by p h true r = rw (e p h, r, counted (f p) 1 k from r, ← t.counts p h)
        by p h false r = rw (e p h, r, passed (f p) 1 k from r, ← t.counts p h)

-- the children of p, and the active ones
abbrev is_child : Chart → State → State → Bool
is_child c p s = eqb (parent c s) p

abbrev is_active_child : Image → Chart → State → State → Bool
is_active_child im c p s = is_child c p s && is_active im s

-- one more child of q in the table, read at p
more-at : (those next : Children) {q : State} (t : Bool) → length those.0 ≡ 256 → q < 256 → next.0 ≡ set those.0 q (one_more t (count_of those q))
    → (p : State) (u : Bool) → eqb q p ≡ u → count_of next p ≡ (when u then one_more t (count_of those p) else count_of those p)
unfolding when◌then◌else◌
more-at those next {q} t size hq put p true r = rw (put, ← eqb-true q p r) (get_or-set_same those.0 q _ _ (rw size hq))
more-at those next {q} t size hq put p false r = rw put (get_or-set_other those.0 q p _ _ (λ e. eqb-false q p r (sym e)))

-- the table at k, on the way from 1 up to e
pub record Walk (im : Image) (c : Chart) (e k : ℕ) (those : Children) : Type 0 where
  pub from : 1 ≤ k
  pub up_to : k - 1 ≤ e - 1
  pub size : length those.0 ≡ 256
  pub every : Tally (is_child c) k (λ p. (count_of those p).all)
  pub some : Tally (is_active_child im c) k (λ p. (count_of those p).active)

module _ (im : Image) (c : Chart) (e : ℕ) where
  pub walk_start : Walk im c e 1 (record { 0 = replicate 256 (record { all = 0; active = 0 }) })
  walk_start =
      record {
        from = omega arith;
        up_to = omega arith;
        size = refl;
        every = none-counted (is_child c) (λ p h. ap (λ (n : Count). n.all) (get_or-replicate 256 p _ _ h));
        some = none-counted (is_active_child im c) (λ p h. ap (λ (n : Count). n.active) (get_or-replicate 256 p _ _ h));
      }

module _ {im : Image} {c : Chart} {e k : ℕ} {those : Children} (w : Walk im c e k those) where
  pub walk_end : e ≤ k → e ≡ states c → Counted im c those
  unfolding children range
  walk_end h own =
      record {
        every = λ p b. w.every.counts p b ∙ rw whole;
        some = λ p b. w.some.counts p b ∙ rw (keep-again (is_child c p) (is_active im) (range 1 (states c)), whole);
      }
    where
      whole : range 1 k ≡ range 1 (states c)
      whole = let q : k - 1 ≡ states c - 1 = omega (arith, w.up_to, own) in rw q

  -- a turn: k counts for its parent q, and among the active ones too if it is active
  pub walk_turn : k < e → {q : State} → q < 256 → q ≡ parent c k → (t : Bool) → t ≡ is_active im k → {next : Children}
      → next.0 ≡ set those.0 q (one_more t (count_of those q)) → Walk im c e (k + 1) next
  unfolding when◌then◌else◌
  walk_turn h {q} hq read t is {next} put =
      record {
        from = omega arith;
        up_to = omega (arith, w.from);
        size = rw put (length-set those.0 q _ ∙ w.size);
        every = tally-turn (is_child c) w.every w.from (λ p b. all-at p (eqb q p) refl);
        some = tally-turn (is_active_child im c) w.some w.from (λ p b. active-at p (eqb q p) t refl refl);
      }
    where
      all-at : (p : State) (u : Bool) → eqb q p ≡ u → (count_of next p).all ≡ (when is_child c p k then (count_of those p).all + 1 else (count_of those p).all)
      all-at p true r = rw (more-at those next t w.size hq put p true r, ← read, r)
      all-at p false r = rw (more-at those next t w.size hq put p false r, ← read, r)

      active-at : (p : State) (u v : Bool) → eqb q p ≡ u → t ≡ v
          → (count_of next p).active ≡ (when is_active_child im c p k then (count_of those p).active + 1 else (count_of those p).active)
      active-at p true true r s = rw (more-at those next t w.size hq put p true r, ← read, ← is, r, s)
      active-at p true false r s = rw (more-at those next t w.size hq put p true r, ← read, ← is, r, s)
      active-at p false v r s = rw (more-at those next t w.size hq put p false r, ← read, r)

-- the test of one state, of what the table has there
pub shape-tested : {im : Image} {c : Chart} {those : Children} (t : Counted im c those) (s : State) → s < 256 → {wanted : ℕ}
    → wanted ≡ (when is_active im s then (when is_one_of c s then 1 else (count_of those s).all) else 0)
    → eqb (count_of those s).active wanted ≡ shape_at im c s
unfolding shape_at
shape-tested t s h e = rw (e, t.some s h, t.every s h)
