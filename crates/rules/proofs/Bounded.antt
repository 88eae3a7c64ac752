-- What a chart with a bound gives: no instruction sends, and a segment weighs at least its own unit and instructions and what the
-- segments after it weigh. For no junction leads back to itself, so a way passes at most as many junctions as there are. Assumes
-- nothing.
use mathlib.Core.Path.{◌≡◌, refl, sym, ap}
use mathlib.Core.Logic.{inl, inr}
use mathlib.Core.Bool.{true, false, not}
use mathlib.Core.List.Memᴰ
use mathlib.Core.List.{List, [], ◌∷◌}
use Prim.Native.Nat.{ℕ, zero, suc, ◌+◌, ◌≤◌, ◌<◌}
use native.Mathlib.Numerals.{add-one}
use native.Mathlib.Omega.{arith}
use lib.ListN.{length}
use borrow.Author.Tests.{eq-eqb, not-true}
use Rattle.rules.specs.Lists.{when◌then◌else◌, below, is_in, sum_over}
use Rattle.rules.specs.Chart.{Junction, Segment, Chart, junctions, segments, instructions, destination, condition, condition_action, instruction, from_junction, ends_on_state}
use Rattle.rules.specs.Accept.{is_send}
use Rattle.rules.specs.Bound.{WWithin, W, leads_to, onward, reaches, loops, bound_refusal}
use Rattle.rules.proofs.Laws.{two, clash, and_both, or_cases, or_left, or_right, if-false, unless-zero}
use Rattle.rules.proofs.Members.{Mem, mem-any, keep-mem, mem-keep, is_in-mem, mem-is_in, below-mem, mem_below, every-below}
use Rattle.rules.proofs.Sums.{sum-le}
use Rattle.rules.proofs.Taken.{Right, to-junction}
use Rattle.rules.proofs.Distinct.{Distinct, mem-light, few}

pub record Bounded (c : Chart) : Type 0 where
  pub silent : (i : ℕ) → i < instructions c → is_send (instruction c i).op ≡ false
  pub weight : (t : Segment) → t < segments c
      → 1 + (condition c t).count + (condition_action c t).count
      + (when ends_on_state c t then 0 else sum_over (W c) (from_junction c (destination c t))) ≤ W c t

module _ (c : Chart) where
  own_is : (j : Junction) {t : Segment} → Mem t (from_junction c j) → t < segments c
  unfolding from_junction
  own_is j m = below-mem (segments c) (keep-mem _ (below (segments c)) m).0

  own-leads : (j : Junction) (t : Segment) → Mem t (from_junction c j) → ends_on_state c t ≡ false → leads_to c (destination c t) j ≡ true
  unfolding leads_to
  own-leads j t m e =
      mem-any _ (from_junction c j) m (and_both (not (ends_on_state c t)) _ (ap not e) (eq-eqb (destination c t) _ refl))

  reach_here : (j n : ℕ) (is : List Junction) → Mem j is → reaches c j n is ≡ true
  unfolding reaches
  reach_here j zero is m = mem-is_in j is m
  reach_here j (suc n) is m = or_left (is_in j is) _ (mem-is_in j is m)

  module _ (j k : Junction) (l : leads_to c k j ≡ true) (h : k < junctions c) where
    onward-mem : (is : List Junction) → Mem j is → Mem k (onward c is)
    unfolding onward
    onward-mem is m = mem-keep _ (below (junctions c)) (mem_below (junctions c) k h) (mem-any (leads_to c k) is m l)

    -- one segment more, from j to k
    reach-on : (n m : ℕ) (is : List Junction) → n ≤ m → reaches c j n is ≡ true → reaches c k m (onward c is) ≡ true
    unfolding reaches
    reach-on zero m is g e = reach_here k m (onward c is) (onward-mem is (is_in-mem j is e))
    reach-on (suc n) zero is g e = absurd (omega arith)
    reach-on (suc n) (suc m) is g e =
        elim (or_cases (is_in j is) _ e) [
          | inl q ↦ reach_here k (suc m) (onward c is) (onward-mem is (is_in-mem j is q))
          | inr q ↦ or_right (is_in k (onward c is)) _ (reach-on n m (onward c is) (omega arith) q)
        ]

  -- the junctions of a way to j, which is one of them: none comes twice, and from each the way leads on to j
  record JunctionsTo (j : Junction) (vs : List Junction) : Type 0 where
    distinct : Distinct vs
    real : (v : Junction) → Mem v vs → v < junctions c
    reach : (v : Junction) → Mem v vs → reaches c j (length vs) (v ∷ []) ≡ true

  short : {j : Junction} {vs : List Junction} → JunctionsTo j vs → length vs ≤ junctions c
  short {vs = vs} p = few (junctions c) vs p.distinct p.real

  start : (j : Junction) → j < junctions c → JunctionsTo j (j ∷ [])
  start j h =
      record {
        distinct = (Memᴰ.not-nil, tt);
        real = λ v m. rw (Memᴰ.eq_of_singleton m) h;
        reach = λ v m. reach_here j 1 (v ∷ []) (Memᴰ.head (sym (Memᴰ.eq_of_singleton m)));
      }

  -- what the segments of a junction weigh, n deep
  abbrev ahead : ℕ → Junction → ℕ
  ahead n j = sum_over (λ u. WWithin c n u) (from_junction c j)

  -- one level deeper a segment weighs no more, if those after it don't
  weighs-no-more : (n : ℕ) (t : Segment)
      → (ends_on_state c t ≡ false → ahead (suc n) (destination c t) ≤ ahead n (destination c t))
      → WWithin c (suc (suc n)) t ≤ WWithin c (suc n) t
  unfolding WWithin when◌then◌else◌
  weighs-no-more n t h =
      elim (two (ends_on_state c t)) [ inl e ↦ rw e (omega arith) | inr e ↦ rw e (omega (arith, h e)) ]

  module _ (r : Right c) (free : (j : Junction) → j < junctions c → loops c j ≡ false) where
    next : {j : Junction} {vs : List Junction} (t : Segment) → JunctionsTo j vs → Mem t (from_junction c j) → ends_on_state c t ≡ false
        → JunctionsTo (destination c t) (destination c t ∷ vs)
    unfolding loops reaches
    next {j} {vs} t p m e =
        record {
          distinct = (λ n. clash (on (junctions c) (short p) n) (free d h), p.distinct);
          real = λ v n. elim (Memᴰ.cases_cons n) [ inl q ↦ rw q h | inr n ↦ p.real v n ];
          reach = λ v n. elim (Memᴰ.cases_cons n) [
            | inl q ↦ reach_here d (suc (length vs)) (v ∷ []) (Memᴰ.head (sym q))
            | inr n ↦ or_right (is_in d (v ∷ [])) _ (on (length vs) (omega arith) n)
          ];
        }
      where
        d : Junction
        d = destination c t

        h : d < junctions c
        h = to-junction c r t (own_is j m) e

        on : {v : Junction} (n : ℕ) → length vs ≤ n → Mem v vs → reaches c d n (onward c (v ∷ [])) ≡ true
        on {v} n g i = reach-on j d (own-leads j t m e) h (length vs) n (v ∷ []) g (p.reach v i)

    -- a way with vs behind it ends before n segments more
    stable : (n : ℕ) {j : Junction} {vs : List Junction} → JunctionsTo j vs → junctions c < n + length vs
        → ahead (suc n) j ≤ ahead n j
    stable zero p h = let l = short p in absurd (omega arith)
    stable (suc n) {j} p h = sum-le _ _ (from_junction c j) (λ t m. weighs-no-more n t (λ e. stable n (next t p m e) (omega arith)))

    enough : (t : Segment) → t < segments c → WWithin c (suc (junctions c + 1)) t ≤ WWithin c (junctions c + 1) t
    enough t h =
        rw (add-one (junctions c))
        (weighs-no-more (junctions c) t (λ e. stable (junctions c) (start _ (to-junction c r t h e)) (omega arith)))

pub bounded : (c : Chart) → Right c → bound_refusal c ≡ 0 → Bounded c
unfolding bound_refusal W WWithin
bounded c r e =
    let (a, e1) = unless-zero 20 _ _ e in
    let (b, e2) = unless-zero 21 _ _ e1 in
    record {
      silent = λ i h. not-true _ (every-below (λ i. not (is_send (instruction c i).op)) (instructions c) a i h);
      weight = enough c r (λ j h. not-true _ (every-below (λ j. not (loops c j)) (junctions c) b j h));
    }

pub falls : (c : Chart) → Bounded c → (t u : Segment) → t < segments c → ends_on_state c t ≡ false
    → Mem u (from_junction c (destination c t)) → W c u < W c t
falls c b t u h e m =
    let l = b.weight t h in
    let q = if-false (ends_on_state c t) 0 (sum_over (W c) (from_junction c (destination c t))) e in
    let k = mem-light (W c) u (from_junction c (destination c t)) m in
    omega arith
