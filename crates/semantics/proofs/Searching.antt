-- The search is 002's transitions and lists of transitions. The definitions hand the path so far down, 002 puts it together on
-- the way back: what a list comes to lies `along` the path before it. Here from the definitions to the rules. Assumes nothing.
use mathlib.Core.Path.{◌≡◌, refl, sym, ap, ◌∙◌}
use mathlib.Core.Logic.{inl, inr}
use mathlib.Core.Bool.{Bool, true, false, ◌||◌, true≢false}
use mathlib.Core.List.Memᴰ
use mathlib.Core.List.{List, [], ◌∷◌, ◌++◌, append_assoc}
use Prim.Native.Nat.{ℕ, zero, suc, ◌+◌, ◌<◌}
use native.Mathlib.Omega.{arith}
use lib.Dec.{eqb}
use borrow.Author.Tests.{eqb-true, eqb-false, eq-eqb, ne_eqb}
use lib.ListN.{length, length-append}
use Rattle.rules.specs.Lists.{when◌then◌else◌}
use Rattle.rules.specs.Chart.{State, Segment, Chart, states, segments, event, condition_action, destination, ends_on_state, from_junction, code}
use Rattle.rules.specs.Doing.{Now, Doing, give, pay, segment_passed, note}
use Rattle.rules.specs.Block.{Ran, ran, abandoned, unless_abandoned}
use Rattle.rules.specs.Search.{Found, reached, nowhere, ended, run_abandoned, or_next, passes, tries, passed, search}
use Rattle.rules.specs.Run.{send}
use Rattle.rules.proofs.Laws.{clash, or_cases, or_left, or_right, or_no}
use Rattle.rules.proofs.Members.{Mem}
use Rattle.rules.proofs.Taken.{Right, condition_action-valid}
use Rattle.rules.proofs.Blocks.{How}
use Rattle.rules.proofs.Shape.{Good}
use Rattle.rules.proofs.Firing.{Going, Path}
use Rattle.rules.proofs.Running.{Way, Got, further, no_way, t-send, t-passes, t-owns, t-tries, t-passed}
use Rattle.semantics.specs.Relation as R
use Rattle.semantics.specs.Relation.{⇝a, ⇝t, ⇝tl, ◌⊢◌, Gives, Goes, Enb}
use Rattle.semantics.proofs.Inverting.{kept, paid, noted, then-inv, bind_inv, give-inv, give-goes, refuse-inv, choose-inv, yes-goes, no-goes}
use Rattle.semantics.proofs.Sends.{SendsSound, Performs, perform-sound}

-- what is found after a path, told from where that path began
abbrev pub along : List Segment → Found → Found
along path (reached d rest) = reached d (path ++ rest)
along path nowhere = nowhere
along path ended = ended
along path run_abandoned = run_abandoned

pub along-longer : (path : List Segment) (t : Segment) (o : Found) → along (path ++ (t ∷ [])) o ≡ along path (along (t ∷ []) o)
along-longer path t (reached d rest) = ap (reached d) (append_assoc path (t ∷ []) rest)
along-longer path t nowhere = refl
along-longer path t ended = refl
along-longer path t run_abandoned = refl

pub along-nothing : (o : Found) → along [] o ≡ o
along-nothing (reached d path) = refl
along-nothing nowhere = refl
along-nothing ended = refl
along-nothing run_abandoned = refl

pub one-longer : (path : List Segment) (t : Segment) {l : ℕ} → length path ≡ l → length (path ++ (t ∷ [])) ≡ l + 1
one-longer path t e = simp length-append (omega arith)

-- o is found, and P says so of it where it is told from the end of the path
abbrev Along : List Segment → (Found → Type 0) → Found → Type 0
Along path P o = (o' : Found) × (o ≡ along path o') × P o'

-- a segment passes if it is enabled
nor : (a b : Bool) → (a || b) ≡ false → (a ≡ false) × (b ≡ false)
nor true b e = absurd (true≢false e)
nor false b e = (refl, e)

passes-inv : (c : Chart) (e : ℕ) (t : Segment) {n n' : Now} {b : Bool} → Gives (passes c e t) n b n' → Enb c e t n n' b
unfolding passes
passes-inv c e t w =
    elim (choose-inv _ _ _ w) [
      | inl (q, v) ↦ elim (or_cases (eqb (event c t) 0) _ q)
          [ inl i ↦ R.tried (inr (eqb-true _ _ i)) v | inr i ↦ R.tried (inl (eqb-true _ _ i)) v ]
      | inr (q, v) ↦
          let (i, j) = nor (eqb (event c t) 0) _ q in
          let (x, y) = give-inv v in
          rw (← x, y) (R.other (eqb-false _ _ j) (eqb-false _ _ i))
    ]

pub passes-goes : (c : Chart) (e : ℕ) (t : Segment) {n n' : Now} {b : Bool} → Enb c e t n n' b → Gives (passes c e t) n b n'
unfolding passes
passes-goes c e t (R.tried (inl i) w) = yes-goes _ _ _ (or_right (eqb (event c t) 0) _ (eq-eqb _ _ i)) w
passes-goes c e t (R.tried (inr i) w) = yes-goes _ _ _ (or_left _ (eqb (event c t) e) (eq-eqb _ _ i)) w
passes-goes c e t (R.other i j) = no-goes _ _ _ (or_no (eqb (event c t) 0) _ (ne_eqb _ _ j) (ne_eqb _ _ i)) give-goes

-- a list is tried behind a path, m segments more at most; a path to each of a list
abbrev pub Tried : Chart → ℕ → ℕ → State → ℕ → List Segment → List Segment → Doing Found
Tried c k e p m path ts = tries c (send c k) e p (passed c (send c k) e p m path) ts

abbrev pub Ways : Chart → List Segment → List Segment → Type 0
Ways c path ts = (t : Segment) → Mem t ts → Way c path t

-- a list that was gone through: an empty one gives nowhere in the definitions, where the relation has -1
abbrev pub Gone : Chart → ℕ → ℕ → State → ℕ → List Segment → Now → Now → Found → Type 0
Gone c k e p l [] n n' o = (o ≡ nowhere) × (n ≡ n')
Gone c k e p l (t ∷ ts) n n' o = c ⊢ ⇝tl k e p l (t ∷ ts) n n' o

module _ (c : Chart) (rt : Right c) (k e : ℕ) (p : State) (h : p < states c) where
  -- what holds after a segment that passed, and after a list
  passed-kept : (m : ℕ) (path : List Segment) (t : Segment) → Way c path t → {n n' : Now} {o : Found}
      → Gives (passed c (send c k) e p m path t) n o n' → Going c p n.image → Got c p o n'.image
  passed-kept m path t w x g = kept (t-passed c rt (send c k) (t-send c rt k) e p h m path t w) x g

  pub tried-kept : (m : ℕ) (path ts : List Segment) → Ways c path ts → {n n' : Now} {o : Found}
      → Gives (Tried c k e p m path ts) n o n'
      → Going c p n.image → Got c p o n'.image
  tried-kept m path ts ways x g =
      let each = t-passed c rt (send c k) (t-send c rt k) e p h m path in
      kept (t-tries c rt (send c k) (t-send c rt k) e p h _ path each ts ways) x g

  pub noted-kept : (t : Segment) → t < segments c → {n n₁ n₂ : Now} → Gives (passes c e t) n true n₁
      → Goes (note segment_passed t) n₁ n₂ → Going c p n.image → Going c p n₂.image
  noted-kept t real x i g = noted (Going c p) segment_passed t i (kept (t-passes c rt p e t real) x g)

  pub acted-kept : (t : Segment) → t < segments c → {n n' : Now} {r : Ran}
      → Performs c rt k p [] (code c (condition_action c t)) n r n' → Going c p n.image → How (Going c p) (Good c) r n'.image
  acted-kept t real x g =
      kept (t-owns c rt (send c k) (t-send c rt k) e p h (condition_action c t) (condition_action-valid c rt t real)) x g

  module _ (sound : SendsSound c k) where
    -- how a segment that passes goes on
    data Onward (l : ℕ) (t : Segment) (n n' : Now) : Found → Type 0 where
      gone : c ⊢ ⇝t k e p l t n n' false → Onward l t n n' run_abandoned
      there : c ⊢ ⇝t k e p l t n n' true → ends_on_state c t ≡ true → Onward l t n n' (reached (destination c t) (t ∷ []))
      on : {n₁ : Now} (o : Found) → c ⊢ ⇝t k e p l t n n₁ true → ends_on_state c t ≡ false
          → c ⊢ ⇝tl k e p (l + 1) (from_junction c (destination c t)) n₁ n' o → Onward l t n n' (along (t ∷ []) o)

    next-junction : (l : ℕ) (ts : List Segment) (t : Segment) {n n₁ n₂ n₃ n₄ : Now} (o : Found) → Goes pay n n₁
        → c ⊢ ⇝t k e p l t n₁ n₂ true → ends_on_state c t ≡ false
        → c ⊢ ⇝tl k e p (l + 1) (from_junction c (destination c t)) n₂ n₃ nowhere → Gone c k e p l ts n₃ n₄ o
        → c ⊢ ⇝tl k e p l (t ∷ ts) n n₄ o
    next-junction l [] t o pd x j y (a, b) = rw (a, ← b) (R.ToJ3 pd x j y)
    next-junction l (t' ∷ ts) t o pd x j y z = R.ToJ2 pd x j y z

    next-fail : (l : ℕ) (ts : List Segment) (t : Segment) {n n₁ n₂ n₃ : Now} (o : Found) → Goes pay n n₁
        → Gives (passes c e t) n₁ false n₂ → Gone c k e p l ts n₂ n₃ o → c ⊢ ⇝tl k e p l (t ∷ ts) n n₃ o
    next-fail l [] t o pd x (a, b) = rw (a, ← b) (R.Fail pd (passes-inv c e t x))
    next-fail l (t' ∷ ts) t o pd x z = R.Ind pd (passes-inv c e t x) z

    module _ (l : ℕ) (path ts : List Segment) (t : Segment) (m : Doing Found) {n n₁ : Now} (pd : Goes pay n n₁)
        {n₃ n₄ : Now} {o : Found} (rest : Going c p n₃.image → Gives m n₃ o n₄ → Along path (Gone c k e p l ts n₃ n₄) o) where
      -- what a list makes of what its first segment comes to
      beyond : {n₂ : Now} (o₁ : Found) → c ⊢ ⇝t k e p l t n₁ n₂ true → ends_on_state c t ≡ false
          → c ⊢ ⇝tl k e p (l + 1) (from_junction c (destination c t)) n₂ n₃ o₁ → Got c p (along path (along (t ∷ []) o₁)) n₃.image
          → Gives (or_next (along path (along (t ∷ []) o₁)) m) n₃ o n₄
          → Along path (λ o'. c ⊢ ⇝tl k e p l (t ∷ ts) n n₄ o') o
      unfolding or_next
      beyond (reached d q) x j y g w = let (a, b) = give-inv w in (reached d (t ∷ q), sym a, rw (← b) (R.ToJ1 pd x j y))
      beyond nowhere x j y g w = let (o', a, z) = rest g w in (o', a, next-junction l ts t o' pd x j y z)
      beyond ended x j y g w = let (a, b) = give-inv w in (ended, sym a, rw (← b) (R.ToJ4 pd x j y))
      beyond run_abandoned x j y g w = let (a, b) = give-inv w in (run_abandoned, sym a, rw (← b) (R.ToE2 pd x j y))

      answered : {o₁ : Found} → Onward l t n₁ n₃ o₁ → Got c p (along path o₁) n₃.image
          → Gives (or_next (along path o₁) m) n₃ o n₄
          → Along path (λ o'. c ⊢ ⇝tl k e p l (t ∷ ts) n n₄ o') o
      unfolding or_next
      answered (gone x) g w = let (a, b) = give-inv w in (run_abandoned, sym a, rw (← b) (R.ToE1 pd x))
      answered (there x s) g w = let (a, b) = give-inv w in (reached (destination c t) (t ∷ []), sym a, rw (← b) (R.ToS pd x s))
      answered (on o₁ x j y) g w = beyond o₁ x j y g w

    -- a segment passed, or it did not
    tried : (m l : ℕ) (path ts : List Segment) (t : Segment) → Way c path t → {n n₁ : Now} → Goes pay n n₁
        → Going c p n₁.image
        → ((n₂ n₃ : Now) (o : Found) → Gives (passes c e t) n₁ true n₂ → Gives (passed c (send c k) e p m path t) n₂ o n₃
        → Along path (Onward l t n₁ n₃) o)
        → (b : Bool) {n₂ n₃ n₄ : Now} {o₁ o : Found} → Gives (passes c e t) n₁ b n₂
        → Gives (when b then passed c (send c k) e p m path t else give nowhere) n₂ o₁ n₃
        → Gives (or_next o₁ (Tried c k e p m path ts)) n₃ o n₄
        → (Going c p n₃.image → Gives (Tried c k e p m path ts) n₃ o n₄ → Along path (Gone c k e p l ts n₃ n₄) o)
        → Along path (λ o'. c ⊢ ⇝tl k e p l (t ∷ ts) n n₄ o') o
    unfolding or_next when◌then◌else◌
    tried m l path ts t way pd g ways true {n₃ = n₃} x y w rest =
        let g₂ = kept (t-passes c rt p e t way.real) x g in
        let (o', a, u) = ways _ _ _ x y in
        answered l path ts t (Tried c k e p m path ts) pd rest u (rw a at (passed-kept m path t way y g₂)) (rw a at w)
    tried m l path ts t way pd g ways false x y w rest =
        let (a, b) = give-inv y in
        let g₂ = kept (t-passes c rt p e t way.real) x g in
        let (o', q, z) = rest (rw b at g₂) (rw (← a) at w) in
        (o', q, next-fail l ts t o' pd (rw b at x) z)

    tries-sound : (m l : ℕ) (path : List Segment)
        → ((t : Segment) → Way c path t → (n n₁ n' : Now) (o : Found) → Going c p n.image → Gives (passes c e t) n true n₁
        → Gives (passed c (send c k) e p m path t) n₁ o n' → Along path (Onward l t n n') o)
        → (ts : List Segment) → Ways c path ts → (n n' : Now) (o : Found) → Going c p n.image
        → Gives (Tried c k e p m path ts) n o n'
        → Along path (Gone c k e p l ts n n') o
    unfolding tries
    tries-sound m l path way [] ways n n' o g w = let (a, b) = give-inv w in (nowhere, sym a, (refl, b))
    tries-sound m l path way (t ∷ ts) ways n n' o g w =
        let b₁ = then-inv _ _ w in
        let b₂ = bind_inv _ _ b₁.behind in
        let b₃ = bind_inv _ _ b₂.behind in
        let g₁ = paid (Going c p) b₁.before g in
        let this = ways t (Memᴰ.head refl) in
        tried m l path ts t this b₁.before g₁ (λ n₂ n₃ o' x y. way t this _ n₂ n₃ o' g₁ x y) b₂.gave b₂.before
        b₃.before b₃.behind (λ g₃ v. tries-sound m l path way ts (λ u i. ways u (Memᴰ.tail i)) _ n' o g₃ v)

    -- a junction's own list
    junction : (l : ℕ) (path ts : List Segment) (m : Doing Found) {n n' : Now} {o : Found}
        → Gives (when eqb (length ts) 0 then give ended else m) n o n' → (Gives m n o n' → Along path (Gone c k e p l ts n n') o)
        → Along path (λ o'. c ⊢ ⇝tl k e p l ts n n' o') o
    junction l path [] m w f =
        elim (choose-inv _ _ _ w) [
          | inl (z, v) ↦ let (a, b) = give-inv v in (ended, sym a, rw (← b) R.Ter)
          | inr (z, v) ↦ clash refl z
        ]
    junction l path (t ∷ ts) m w f =
        elim (choose-inv _ _ _ w)
        [ inl (z, v) ↦ absurd (omega (arith, eqb-true (length (t ∷ ts)) 0 z)) | inr (z, v) ↦ f v ]

    ran-or-not : (l : ℕ) (path : List Segment) (t : Segment) (r : Ran) (m : Doing Found) {n n₁ n₂ n₃ n₄ : Now} {o : Found}
        → Gives (passes c e t) n true n₁ → l < 128 → Goes (note segment_passed t) n₁ n₂
        → c ⊢ ⇝a k p [] (code c (condition_action c t)) n₂ n₃ r
        → Gives (unless_abandoned r run_abandoned (λ _. when ends_on_state c t then give (reached (destination c t) (path ++ (t ∷ [])))
        else when eqb (length (from_junction c (destination c t))) 0 then give ended else m)) n₃ o n₄ → How (Going c p) (Good c) r n₃.image
        → (ends_on_state c t ≡ false → Going c p n₃.image → Gives m n₃ o n₄
        → Along (path ++ (t ∷ [])) (Gone c k e p (l + 1) (from_junction c (destination c t)) n₃ n₄) o)
        → Along path (Onward l t n n₄) o
    unfolding unless_abandoned
    ran-or-not l path t abandoned m x few i a w g f =
        let (y, z) = give-inv w in (run_abandoned, sym y, rw (← z) (gone (R.TrF (passes-inv c e t x) few i a)))
    ran-or-not l path t (ran st) m x few i a w g f =
        elim (choose-inv _ _ _ w) [
          | inl (s, v) ↦
              let (y, z) = give-inv v in
              (reached (destination c t) (t ∷ []), sym y, rw (← z) (there (R.TrT (passes-inv c e t x) few i a) s))
          | inr (s, v) ↦
              let (o', y, z) = junction (l + 1) (path ++ (t ∷ [])) (from_junction c (destination c t)) m v (f s g) in
              (along (t ∷ []) o', y ∙ along-longer path t o', on o' (R.TrT (passes-inv c e t x) few i a) s z)
        ]

    passed-sound : (m l : ℕ) (path : List Segment) → length path ≡ l → m + l ≡ 128 → (t : Segment) → Way c path t
        → (n n₁ n' : Now) (o : Found) → Going c p n.image → Gives (passes c e t) n true n₁
        → Gives (passed c (send c k) e p m path t) n₁ o n' → Along path (Onward l t n n') o
    unfolding passed
    passed-sound zero l path z q t way n n₁ n' o g x w = refuse-inv 19 w
    passed-sound (suc m) l path z q t way n n₁ n' o g x w =
        let b₁ = then-inv _ _ w in
        let b₂ = bind_inv _ _ b₁.behind in
        let g₂ = noted-kept t way.real x b₁.before g in
        let right = (condition_action-valid c rt t way.real).operands in
        let code = code c (condition_action c t) in
        let a = perform-sound c rt k p sound [] code b₁.mid b₂.mid b₂.gave right g₂ b₂.before in
        ran-or-not l path t b₂.gave _ x (omega arith) b₁.before a b₂.behind (acted-kept t way.real b₂.before g₂)
        (λ s g₃ v. tries-sound m (l + 1) (path ++ (t ∷ []))
        (passed-sound m (l + 1) (path ++ (t ∷ [])) (one-longer path t z) (omega arith))
        (from_junction c (destination c t)) (λ u i. further c rt u way s i) b₂.mid n' o g₃ v)

    -- what a state's list comes to: a state, none, or early return
    pub search-sound : (ts : List Segment) → Path c ts → (n n' : Now) (o : Found) → Going c p n.image
        → Gives (search c (send c k) e p ts) n o n' → Gone c k e p 0 ts n n' o
    unfolding search
    search-sound ts real n n' o g w =
        let ways : Ways c [] ts = λ t i. no_way c rt t (real t i) in
        let (o', a, x) = tries-sound 128 0 [] (passed-sound 128 0 [] refl (omega arith)) ts ways n n' o g w in
        rw (a ∙ along-nothing o') x
