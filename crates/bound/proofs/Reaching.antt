-- What is reached from a junction, as far as it is flagged: each within as many segments as others are flagged; and where all
-- that segments lead on to is flagged, there is no more. Assumes nothing.
use mathlib.Core.Logic.{◌⊎◌, inl, inr}
use mathlib.Core.Path.{◌≡◌, refl, sym, ap, ◌∙◌}
use mathlib.Core.Bool.{Bool, true, false, ◌&&◌, ◌||◌, or-false}
use mathlib.Core.Bool as B
use mathlib.Core.List.{List, [], ◌∷◌}
use Prim.Native.Nat.{ℕ, zero, suc, ◌+◌, ◌-◌, ◌≤◌, ◌<◌}
use native.Mathlib.Numerals.{add-one}
use native.Mathlib.Omega.{arith}
use lib.Dec.{eqb, ltb}
use lib.ListN.{set, replicate}
use borrow.Author.Count.{below_more}
use borrow.Author.Tests.{eqb-true, eqb-false, eq-eqb, ne_eqb, ltb-true}
use Rattle.std.specs.Prelude.{Option, Some, None}
use Rattle.rules.specs.Bytes.{byte}
use Rattle.rules.specs.Lists.{below, any, is_in}
use Rattle.rules.specs.Chart.{Chart, Junction, Segment, junctions, segments, source_kind, source, destination, ends_on_state}
use Rattle.rules.specs.Bound.{onward, reaches, loops}
use Rattle.rules.specs.declared.numbers.JunctionNo.{JunctionNo}
use Rattle.rules.proofs.Laws.{two, clash, or_cases, and_left, and_right, and_both, or_right}
use Rattle.rules.proofs.Members.{mem-any, mem_below}
use Rattle.bound.specs.Flags.{flags, is_flagged, leads_on, led_to}
use Rattle.bound.proofs.Growing.{any_none, any-more, ended}
use Rattle.bound.proofs.Counting.{found, found-most, found-more}
use Rattle.bound.proofs.Flagging.{flagged, no-flags, flag-more}
use Rattle.bound.proofs.Leading.{flags_of, in-onward, some-led, none-led-to}

other-side : (a b : ℕ) (t : Bool) → eqb b a ≡ t → eqb a b ≡ t
other-side a b true p = eq-eqb a b (sym (eqb-true b a p))
other-side a b false p = ne_eqb a b (λ e. eqb-false b a p (sym e))

first-off : (a b : Bool) → a || b ≡ false → a ≡ false
first-off true b q = q
first-off false b q = refl

last-first : (a k j : Bool) → (a || k) || j ≡ (a || j) || k
last-first true k j = refl
last-first false true true = refl
last-first false true false = refl
last-first false false j = sym (or-false j)

parts : (a b d e : Bool) → a && b && d && e ≡ true → (a ≡ true) × (b ≡ true) × (d ≡ true) × (e ≡ true)
parts true true true true q = (refl, refl, refl, refl)
parts true true true false q = clash q refl
parts true true false e q = clash q refl
parts true false d e q = clash q refl
parts false b d e q = clash q refl

-- one of those below n passes
any-next : (f : ℕ → Bool) (n : ℕ) → (any f (below n) ≡ true → (t : ℕ) × (t < n) × (f t ≡ true)) → any f (below (n + 1)) ≡ true
    → (t : ℕ) × (t < n + 1) × (f t ≡ true)
any-next f n i e = elim (or_cases (any f (below n)) (f n) (sym (any-more f n) ∙ e)) [
  | inl q ↦ let (t, h, p) = i q in (t, omega arith, p)
  | inr q ↦ (n, omega arith, q)
]

any_found : (f : ℕ → Bool) (n : ℕ) → any f (below n) ≡ true → (t : ℕ) × (t < n) × (f t ≡ true)
any_found f zero e = clash e (any_none f)
any_found f (suc n) e = rw (← add-one n) (any-next f n (any_found f n) (rw (← add-one n) at e))

module _ (c : Chart) where
  reached : (j : Junction) (n : ℕ) (is : List Junction) → is_in j is ≡ true → reaches c j n is ≡ true
  unfolding reaches
  reached j zero is e = e
  reached j (suc n) is e = rw e

  reached-last : (j : Junction) (is : List Junction) → reaches c j 0 is ≡ is_in j is
  unfolding reaches
  reached-last j is = refl

  reached-later : (j : Junction) (n : ℕ) (is : List Junction) → is_in j is ≡ false → reaches c j (suc n) is ≡ reaches c j n (onward c is)
  unfolding reaches
  reached-later j n is e = rw e

  -- at once or later
  at-once : (j : Junction) (n : ℕ) (is : List Junction) → reaches c j (suc n) is ≡ true → (is_in j is ≡ true) ⊎ (reaches c j n (onward c is) ≡ true)
  unfolding reaches
  at-once j n is e = or_cases (is_in j is) (reaches c j n (onward c is)) e

  later : (j : Junction) (n : ℕ) (is : List Junction) → reaches c j n (onward c is) ≡ true → reaches c j (suc n) is ≡ true
  unfolding reaches
  later j n is e = rw e (B.or-true (is_in j is))

  once-more : (j : Junction) (n : ℕ) (is : List Junction) → reaches c j n is ≡ true → reaches c j (suc n) is ≡ true
  once-more j zero is e = reached j 1 is (sym (reached-last j is) ∙ e)
  once-more j (suc n) is e = elim (at-once j n is e) [
    | inl p ↦ reached j (suc (suc n)) is p
    | inr p ↦ later j (suc n) is (once-more j n (onward c is) p)
  ]

  within-more : (j : Junction) (n d : ℕ) (is : List Junction) → reaches c j n is ≡ true → reaches c j (d + n) is ≡ true
  within-more j n zero is e = let q : 0 + n ≡ n = omega arith in rw q e
  within-more j n (suc d) is e =
      let q : suc d + n ≡ suc (d + n) = omega arith in rw q (once-more j (d + n) is (within-more j n d is e))

  within : (j : Junction) {n m : ℕ} (is : List Junction) → n ≤ m → reaches c j n is ≡ true → reaches c j m is ≡ true
  within j {n} {m} is h e =
      let q : m ≡ (m - n) + n = omega arith in rw q (within-more j n (m - n) is e)

  -- a segment further, where from each list that has i it goes on to k
  a-step : (i k : Junction) → ((is : List Junction) → is_in i is ≡ true → is_in k (onward c is) ≡ true)
      → (n : ℕ) (is : List Junction) → reaches c i n is ≡ true → reaches c k n (onward c is) ≡ true
  a-step i k s zero is e = reached-last k (onward c is) ∙ s is (sym (reached-last i is) ∙ e)
  a-step i k s (suc n) is e = elim (at-once i n is e) [
    | inl p ↦ reached k (suc n) (onward c is) (s is p)
    | inr p ↦ later k n (onward c is) (a-step i k s n (onward c is) p)
  ]

  -- what a segment that leads on tells
  led-parts : (here : List Bool) (t : Segment) → leads_on c here t ≡ true
      → (eqb (source_kind c t) 2 ≡ true) × (is_flagged here (source c t) ≡ true) × (B.not (ends_on_state c t) ≡ true) × (ltb (destination c t) (junctions c) ≡ true)
  unfolding leads_on
  led-parts here t e = parts _ _ _ _ e

  led-alike : (here there : List Bool) (t : Segment) → leads_on c here t ≡ true → is_flagged there (source c t) ≡ true → leads_on c there t ≡ true
  unfolding leads_on
  led-alike here there t e f = let p = led-parts here t e in rw (p.0, f, p.2, p.3)

  module _ (bytes : (i : ℕ) → byte c i < 256) where
    led-step : (here : List Bool) (t : Segment) → t < segments c → leads_on c here t ≡ true → (is : List Junction)
        → is_in (source c t) is ≡ true → is_in (destination c t) (onward c is) ≡ true
    led-step here t h e is i =
        sym (in-onward c bytes is (destination c t))
        ∙ mem-any (λ u. leads_on c (flags_of is) u && eqb (destination c u) (destination c t)) (below (segments c)) (mem_below (segments c) t h)
        (and_both _ _ (led-alike here (flags_of is) t e (flagged (λ n. is_in n is) (source c t) (bytes _) ∙ i)) (eq-eqb (destination c t) (destination c t) refl))

    -- nothing more is led on to
    module _ (j : Junction) (f : ℕ → Bool) {here : List Bool} (all : here ≡ flags f)
        (still : (u : Segment) → u < segments c → leads_on c here u ≡ true → (eqb (destination c u) j ≡ false) × (is_flagged here (destination c u) ≡ true)) where
      stays : (is : List Junction) → ((i : ℕ) → is_in i is ≡ true → f i ≡ true) → (i : ℕ) → is_in i (onward c is) ≡ true
          → (eqb i j ≡ false) × (f i ≡ true)
      stays is w i e =
          let (u, h, both) = any_found (λ t. leads_on c (flags_of is) t && eqb (destination c t) i) (segments c) (in-onward c bytes is i ∙ e) in
          let on = and_left (leads_on c (flags_of is) u) (eqb (destination c u) i) both in
          let to : destination c u ≡ i = eqb-true (destination c u) i (and_right (leads_on c (flags_of is) u) (eqb (destination c u) i) both) in
          let from : is_in (source c u) is ≡ true = sym (flagged (λ n. is_in n is) (source c u) (bytes _)) ∙ (led-parts (flags_of is) u on).1 in
          let there : is_flagged here (source c u) ≡ true = rw all (flagged f (source c u) (bytes _) ∙ w (source c u) from) in
          let s = still u h (led-alike (flags_of is) here u on there) in
          (rw (← to) s.0, rw (← to) (sym (flagged f (destination c u) (bytes _)) ∙ rw all at s.1))

      not-back : (is : List Junction) → ((i : ℕ) → is_in i is ≡ true → f i ≡ true) → is_in j (onward c is) ≡ false
      not-back is w = elim (two (is_in j (onward c is))) [
        | inl q ↦ clash (eq-eqb j j refl) (stays is w j q).0
        | inr q ↦ q
      ]

      never : (n : ℕ) (is : List Junction) → ((i : ℕ) → is_in i is ≡ true → f i ≡ true) → is_in j is ≡ false → reaches c j n is ≡ false
      never zero is w e = reached-last j is ∙ e
      never (suc n) is w e =
          reached-later j n is e
          ∙ never n (onward c is) (λ i q. (stays is w i q).1) (not-back is w)

      nowhere : (is : List Junction) → ((i : ℕ) → is_in i is ≡ true → f i ≡ true) → (n : ℕ) → reaches c j n (onward c is) ≡ false
      nowhere is w n = never n (onward c is) (λ i q. (stays is w i q).1) (not-back is w)

-- before a round: those that are flagged beside j are reached from it, and one was new in each round before
pub record Reached (c : Chart) (j : Junction) (rounds : ℕ) (here : List Bool) : Type 0 where
  pub those : ℕ → Bool
  pub flagged_all : here ≡ flags (λ i. those i || eqb j i)
  pub each : (i : ℕ) → those i || eqb j i ≡ true → reaches c i (found those (junctions c)) (j ∷ []) ≡ true
  pub many : rounds ≤ found those (junctions c)

-- in a round, before segment t: so it stays, and one is new or those passed lead to what is flagged
pub record Going (c : Chart) (j : Junction) (rounds t : ℕ) (here : List Bool) (more : Bool) : Type 0 where
  pub known : Reached c j rounds here
  pub grown : more ≡ true → Reached c j (rounds + 1) here
  pub still : more ≡ false → (u : ℕ) → u < t → leads_on c here u ≡ true → (eqb (destination c u) j ≡ false) × (is_flagged here (destination c u) ≡ true)

module _ (c : Chart) (j : Junction) where
  only_one : (i : ℕ) → is_in i (j ∷ []) ≡ eqb j i
  unfolding is_in any
  only_one i = or-false (eqb i j) ∙ other-side i j (eqb j i) refl

  pub reached-start : j < 256 → Reached c j 0 (set (replicate 256 false) j true)
  reached-start small = record {
    those = λ i. false;
    flagged_all = ap (λ (l : List Bool). set l j true) (no-flags (λ i. false) (λ i. refl)) ∙ flag-more (λ i. false) (λ i. false || eqb j i) j small (λ i. refl);
    each = λ i e. reached c i (found (λ n. false) (junctions c)) (j ∷ []) (only_one i ∙ e);
    many = omega arith;
  }

fewer-rounds : {c : Chart} {j : Junction} {m n : ℕ} {here : List Bool} → Reached c j m here → n ≤ m → Reached c j n here
fewer-rounds r h = record { those = r.those; flagged_all = r.flagged_all; each = r.each; many = omega (arith, r.many) }

module _ {c : Chart} {j : Junction} {rounds : ℕ} {here : List Bool} where
  pub going-start : Reached c j rounds here → Going c j rounds 0 here false
  going-start r = record { known = r; grown = λ e. clash e refl; still = λ e u h. absurd (omega arith) }

  -- a segment that leads on from one of those
  module _ (bytes : (i : ℕ) → byte c i < 256) (r : Reached c j rounds here) {t : Segment} (h : t < segments c) (on : leads_on c here t ≡ true) where
    from-reached : reaches c (source c t) (found r.those (junctions c)) (j ∷ []) ≡ true
    from-reached =
        let f : is_flagged here (source c t) ≡ r.those (source c t) || eqb j (source c t) = rw r.flagged_all (flagged (λ i. r.those i || eqb j i) (source c t) (bytes _)) in
        r.each (source c t) (sym f ∙ (led-parts c here t on).1)

    one-on : reaches c (destination c t) (found r.those (junctions c)) (onward c (j ∷ [])) ≡ true
    one-on = a-step c (source c t) (destination c t) (led-step c bytes here t h on) (found r.those (junctions c)) (j ∷ []) from-reached

    back-there : destination c t ≡ j → loops c j ≡ true
    unfolding loops
    back-there d = within c j (onward c (j ∷ [])) (found-most r.those (junctions c)) (rw d at one-on)

    module _ {k : ℕ} (small : k < 256) (to : k ≡ destination c t) (off : is_flagged here k ≡ false) where
      not-yet : r.those k ≡ false
      not-yet =
          let f : is_flagged here k ≡ r.those k || eqb j k = rw r.flagged_all (flagged (λ i. r.those i || eqb j i) k small) in
          first-off (r.those k) (eqb j k) (sym f ∙ off)

      inside : k < junctions c
      inside = rw to (ltb-true (destination c t) (junctions c) (led-parts c here t on).3)

      one-more : found (λ i. r.those i || eqb k i) (junctions c) ≡ suc (found r.those (junctions c))
      one-more = found-more r.those (λ i. r.those i || eqb k i) k not-yet (λ i. refl) (junctions c) inside ∙ add-one _

      each-more : (i : ℕ) → (r.those i || eqb k i) || eqb j i ≡ true → reaches c i (suc (found r.those (junctions c))) (j ∷ []) ≡ true
      each-more i e = elim (or_cases (r.those i || eqb j i) (eqb k i) (sym (last-first (r.those i) (eqb k i) (eqb j i)) ∙ e)) [
        | inl q ↦ once-more c i (found r.those (junctions c)) (j ∷ []) (r.each i q)
        | inr q ↦
            let same : destination c t ≡ i = sym to ∙ eqb-true k i q in
            rw same at (later c (destination c t) (found r.those (junctions c)) (j ∷ []) one-on)
      ]

      reach-more : {next : List Bool} → next ≡ set here k true → Reached c j (rounds + 1) next
      reach-more n = record {
        those = λ i. r.those i || eqb k i;
        flagged_all =
            n ∙ ap (λ (l : List Bool). set l k true) r.flagged_all
            ∙ flag-more (λ i. r.those i || eqb j i) (λ i. (r.those i || eqb k i) || eqb j i) k small (λ i. last-first (r.those i) (eqb k i) (eqb j i));
        each = λ i e. rw one-more (each-more i e);
        many = omega (arith, r.many, one-more);
      }

  module _ {t : Segment} {more : Bool} (g : Going c j rounds t here more) where
    pub going-on : more ≡ true → Reached c j (rounds + 1) here
    going-on m = g.grown m

    module _ {told : Option JunctionNo} (test : told ≡ led_to c here t) where
      module _ {next : List Bool} {now : Bool} (n : next ≡ here) (m : now ≡ more) where
        passed-so : (more ≡ false → leads_on c here t ≡ true → (eqb (destination c t) j ≡ false) × (is_flagged here (destination c t) ≡ true))
            → Going c j rounds (t + 1) next now
        passed-so this = rw (n, m) (record {
          known = g.known;
          grown = g.grown;
          still = λ e. below_more (λ u. leads_on c here u ≡ true → (eqb (destination c u) j ≡ false) × (is_flagged here (destination c u) ≡ true)) t (g.still e) (this e);
        })

        pub going-by : told ≡ None → Going c j rounds (t + 1) next now
        going-by i = passed-so (λ e on. clash on (none-led-to c here t test i))

        pub going-known : {to : JunctionNo} → told ≡ Some to → (to.0 ≡ j → ⊥) → is_flagged here to.0 ≡ true → Going c j rounds (t + 1) next now
        going-known {to} i apart f =
            let on = some-led c here t test i in
            passed-so (λ e q. (rw (← on.1) (ne_eqb to.0 j apart), rw (← on.1) f))

      module _ (bytes : (i : ℕ) → byte c i < 256) (h : t < segments c) {to : JunctionNo} (i : told ≡ Some to) where
        pub going-more : to.0 < 256 → is_flagged here to.0 ≡ false → {next : List Bool} → next ≡ set here to.0 true
            → {now : Bool} → now ≡ true → Going c j rounds (t + 1) next now
        going-more small off n m =
            let on = some-led c here t test i in
            let r = reach-more bytes g.known h on.0 small on.1 off n in
            record { known = fewer-rounds r (omega arith); grown = λ e. r; still = λ e. clash m e }

        pub going-back : to.0 ≡ j → loops c j ≡ true
        going-back q =
            let on = some-led c here t test i in back-there bytes g.known h on.0 (sym on.1 ∙ q)

    pub going-out : (bytes : (i : ℕ) → byte c i < 256) → more ≡ false → {e : ℕ} → t ≤ e → e ≤ t → e ≡ segments c → loops c j ≡ false
    unfolding loops
    going-out bytes off u l all =
        let q : t ≡ segments c = ended u l ∙ all in
        nowhere c bytes j (λ i. g.known.those i || eqb j i) g.known.flagged_all (rw q at (g.still off))
        (j ∷ []) (λ i e. or_right (g.known.those i) (eqb j i) (sym (only_one c j i) ∙ e)) (junctions c)

    -- with no round left none is new
    pub going-past : more ≡ true → junctions c ≤ rounds → {A : Type 0} → A
    going-past m h =
        let r = g.grown m in absurd (omega (arith, r.many, found-most r.those (junctions c)))
