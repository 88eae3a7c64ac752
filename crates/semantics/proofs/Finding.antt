-- The search, the other way: what 002's rules for transitions and lists of them find, the definitions find. Assumes nothing.
use mathlib.Core.Path.{◌≡◌, refl}
use mathlib.Core.Bool.{Bool, true, false}
use mathlib.Core.List.Memᴰ
use mathlib.Core.List.{List, [], ◌∷◌, ◌++◌}
use Prim.Native.Nat.{ℕ, zero, suc, ◌+◌, ◌-◌, ◌<◌}
use native.Mathlib.Omega.{arith}
use lib.Dec.{eqb}
use borrow.Author.Tests.{ne_eqb}
use lib.ListN.{length}
use Rattle.rules.specs.Lists.{when◌then◌else◌}
use Rattle.rules.specs.Chart.{State, Segment, Chart, segments, condition_action, destination, ends_on_state, from_junction, code}
use Rattle.rules.specs.Image.{Image}
use Rattle.rules.specs.Doing.{Now, Doing, give, pay, segment_passed, note}
use Rattle.rules.specs.Block.{Ran, ran, abandoned, unless_abandoned, send_from, perform}
use Rattle.rules.specs.Search.{Found, reached, nowhere, ended, run_abandoned, or_next, passes, tries, passed}
use Rattle.rules.specs.Run.{send}
use Rattle.rules.proofs.Laws.{clash}
use Rattle.rules.proofs.Taken.{Right}
use Rattle.rules.proofs.Blocks.{How}
use Rattle.rules.proofs.Shape.{Good}
use Rattle.rules.proofs.Firing.{Going}
use Rattle.rules.proofs.Running.{Way, further}
use Rattle.semantics.specs.Relation.{Gives, Goes}
use Rattle.semantics.proofs.Inverting.{paid, then-goes, bind_goes, give-goes, yes-goes, no-goes}
use Rattle.semantics.proofs.Searching.{along, along-longer, one-longer, Tried, Ways, tried-kept, noted-kept, acted-kept}

abbrev finished : Ran → Bool
finished (ran st) = true
finished abandoned = false

-- a segment passed, l before it, and its condition action came to its end or not
pub record Passing (c : Chart) (k e : ℕ) (p : State) (l : ℕ) (t : Segment) (n n' : Now) (b : Bool) : Type 0 where
  pub n₁ : Now
  pub n₂ : Now
  pub how : Ran
  pub enabled : Gives (passes c e t) n true n₁
  pub few : l < 128
  pub noted : Goes (note segment_passed t) n₁ n₂
  pub acted : Gives (perform (send_from p (send c k)) [] (code c (condition_action c t))) n₂ how n'
  pub says : b ≡ finished how

-- what a list comes to, behind any path that leads to it
abbrev pub Finds : Chart → ℕ → ℕ → State → ℕ → List Segment → Now → Now → Found → Type 0
Finds c k e p l [] n n' o = (o ≡ ended) × (n ≡ n')
Finds c k e p l (t ∷ ts) n n' o =
    (m : ℕ) (path : List Segment) → length path ≡ l → m + l ≡ 128 → Ways c path (t ∷ ts) → Going c p n.image
    → Gives (Tried c k e p m path (t ∷ ts)) n (along path o) n'

module _ (c : Chart) (k e : ℕ) (p : State) where
  pub none_tried : (m : ℕ) (path : List Segment) {n : Now} → Gives (Tried c k e p m path []) n nowhere n
  unfolding tries
  none_tried m path = give-goes

  -- what follows a condition action
  abbrev Onward : ℕ → List Segment → Segment → Doing Found
  Onward m path t =
      when ends_on_state c t then give (reached (destination c t) (path ++ (t ∷ [])))
      else when eqb (length (from_junction c (destination c t))) 0 then give ended
      else Tried c k e p m (path ++ (t ∷ [])) (from_junction c (destination c t))

  module _ (m : ℕ) (path ts : List Segment) (t : Segment) {n n₁ : Now} (pd : Goes pay n n₁) where
    pub fail-goes : {n₂ n₃ : Now} {o : Found} → Gives (passes c e t) n₁ false n₂ → Gives (Tried c k e p m path ts) n₂ o n₃
        → Gives (Tried c k e p m path (t ∷ ts)) n o n₃
    unfolding tries when◌then◌else◌ or_next
    fail-goes x y = then-goes pd (bind_goes _ x (bind_goes _ give-goes y))

    try-goes : {n₂ n₃ n₄ : Now} (o₁ : Found) {o : Found} → Gives (passes c e t) n₁ true n₂
        → Gives (passed c (send c k) e p m path t) n₂ o₁ n₃ → Gives (or_next o₁ (Tried c k e p m path ts)) n₃ o n₄
        → Gives (Tried c k e p m path (t ∷ ts)) n o n₄
    unfolding tries when◌then◌else◌
    try-goes o₁ x y z = then-goes pd (bind_goes _ x (bind_goes _ y z))

  passed-goes : (m : ℕ) (path : List Segment) (t : Segment) (how : Ran) {n₁ n₂ n₃ n₄ : Now} {o : Found}
      → Goes (note segment_passed t) n₁ n₂ → Gives (perform (send_from p (send c k)) [] (code c (condition_action c t))) n₂ how n₃
      → Gives (unless_abandoned how run_abandoned (λ _. Onward m path t)) n₃ o n₄ → Gives (passed c (send c k) e p (suc m) path t) n₁ o n₄
  unfolding passed
  passed-goes m path t how i a w = then-goes i (bind_goes _ a w)

  -- a passing segment first, then what the list makes of its answer
  first_goes : (m l : ℕ) (path ts : List Segment) (t : Segment) {n n₁ n₂ n₃ n₄ : Now} {b : Bool} {o : Found} (o₁ : Found)
      → m + l ≡ 128
      → Goes pay n n₁ → (q : Passing c k e p l t n₁ n₂ b)
      → ((m' : ℕ) → m ≡ suc m' → Gives (unless_abandoned q.how run_abandoned (λ _. Onward m' path t)) n₂ o₁ n₃)
      → Gives (or_next o₁ (Tried c k e p m path ts)) n₃ o n₄ → Gives (Tried c k e p m path (t ∷ ts)) n o n₄
  first_goes zero l path ts t o₁ z pd q f w = absurd (omega (arith, q.few))
  first_goes (suc m) l path ts t o₁ z pd q f w =
      try-goes (suc m) path ts t pd o₁ q.enabled (passed-goes m path t q.how q.noted q.acted (f m refl)) w

  ran-goes : (how : Ran) (m : ℕ) (path : List Segment) (t : Segment) {n n' : Now} {o : Found} → true ≡ finished how
      → Gives (Onward m path t) n o n' → Gives (unless_abandoned how run_abandoned (λ _. Onward m path t)) n o n'
  unfolding unless_abandoned
  ran-goes (ran st) m path t s w = w
  ran-goes abandoned m path t s w = clash refl s

  abandoned-goes : (how : Ran) (m : ℕ) (path : List Segment) (t : Segment) {n : Now} → false ≡ finished how
      → Gives (unless_abandoned how run_abandoned (λ _. Onward m path t)) n run_abandoned n
  unfolding unless_abandoned
  abandoned-goes (ran st) m path t s = clash s refl
  abandoned-goes abandoned m path t s = give-goes

  -- a junction's own list
  own-goes : (m l : ℕ) (path ts : List Segment) {n n' : Now} (o : Found) → length path ≡ l → m + l ≡ 128 → Ways c path ts
      → Going c p n.image → Finds c k e p l ts n n' o
      → Gives (when eqb (length ts) 0 then give ended else Tried c k e p m path ts) n (along path o) n'
  own-goes m l path [] o z q ways g (a, b) = yes-goes _ _ _ refl (rw (a, b) give-goes)
  own-goes m l path (t ∷ ts) o z q ways g x = no-goes _ _ _ (ne_eqb (length (t ∷ ts)) 0 (λ z. omega arith)) (x m path z q ways g)

  -- the answers that end a list
  pub reached-stops : (m : Doing Found) {d : State} {path : List Segment} {n : Now}
      → Gives (or_next (reached d path) m) n (reached d path) n
  unfolding or_next
  reached-stops m = give-goes

  pub ended-stops : (m : Doing Found) {n : Now} → Gives (or_next ended m) n ended n
  unfolding or_next
  ended-stops m = give-goes

  pub abandoned-stops : (m : Doing Found) {n : Now} → Gives (or_next run_abandoned m) n run_abandoned n
  unfolding or_next
  abandoned-stops m = give-goes

  pub next-goes : (m : Doing Found) {n n' : Now} {o : Found} → Gives m n o n' → Gives (or_next nowhere m) n o n'
  unfolding or_next
  next-goes m w = w

module _ (c : Chart) (rt : Right c) (k e : ℕ) (p : State) (l : ℕ) (t : Segment) where
  still : (r : Ran) {im : Image} → true ≡ finished r → How (Going c p) (Good c) r im → Going c p im
  still (ran st) e g = g
  still abandoned e g = clash refl e

  -- the owner is there behind a segment that passed
  passing_kept : {n n' : Now} → t < segments c → Passing c k e p l t n n' true → Going c p n.image → Going c p n'.image
  passing_kept real q g =
      still q.how q.says
      (acted-kept c rt k e p g.1.state t real q.acted
      (noted-kept c rt k e p g.1.state t real q.enabled q.noted g))

  -- and behind a junction's own list that leads nowhere
  pub nowhere-kept : (path : List Segment) (n n' : Now) → length path ≡ l → l < 128 → Way c path t → ends_on_state c t ≡ false
      → Going c p n.image → Finds c k e p (l + 1) (from_junction c (destination c t)) n n' nowhere → Going c p n'.image
  nowhere-kept path n n' z few way s g x = go (from_junction c (destination c t)) (λ u i. further c rt u way s i) x
    where
      go : (ts : List Segment) → Ways c (path ++ (t ∷ [])) ts → Finds c k e p (l + 1) ts n n' nowhere → Going c p n'.image
      go [] ways (a, b) = let z : ◌≡◌ {A = ℕ} 0 1 = cc in absurd (omega arith)
      go (u ∷ us) ways y =
          tried-kept c rt k e p g.1.state (127 - l) (path ++ (t ∷ [])) (u ∷ us) ways
          (y (127 - l) (path ++ (t ∷ [])) (one-longer path t z) (omega arith) ways g) g

  -- the rules of a list, by how its first segment, which passes, goes on
  module _ (m : ℕ) (path ts : List Segment) {n n₁ : Now} (z : length path ≡ l) (q : m + l ≡ 128) (ways : Ways c path (t ∷ ts))
      (pd : Goes pay n n₁) (g : Going c p n.image) where
    way : Way c path t
    way = ways t (Memᴰ.head refl)

    g₁ : Going c p n₁.image
    g₁ = paid (Going c p) pd g

    -- what a segment that passes is, wherever the owner is there
    abbrev Passes : Now → Bool → Type 0
    Passes n₂ b = t < segments c → Going c p n₁.image → Passing c k e p l t n₁ n₂ b

    pub state-goes : {n₂ : Now} → Passes n₂ true → ends_on_state c t ≡ true
        → Gives (Tried c k e p m path (t ∷ ts)) n (reached (destination c t) (path ++ (t ∷ []))) n₂
    state-goes x s =
        let here = x way.real g₁ in
        first_goes c k e p m l path ts t _ q pd here
        (λ m' i. ran-goes c k e p here.how m' path t here.says (yes-goes _ _ _ s give-goes)) (reached-stops c k e p _)

    pub early-goes : {n₂ : Now} → Passes n₂ false → Gives (Tried c k e p m path (t ∷ ts)) n run_abandoned n₂
    early-goes x =
        let here = x way.real g₁ in
        first_goes c k e p m l path ts t run_abandoned q pd here
        (λ m' i. abandoned-goes c k e p here.how m' path t here.says) (abandoned-stops c k e p _)

    pub junction-goes : (o₁ : Found) {n₂ n₃ n₄ : Now} {o : Found} → Passes n₂ true → ends_on_state c t ≡ false
        → Finds c k e p (l + 1) (from_junction c (destination c t)) n₂ n₃ o₁
        → (Going c p n₂.image → l < 128 → Gives (or_next (along path (along (t ∷ []) o₁)) (Tried c k e p m path ts)) n₃ o n₄)
        → Gives (Tried c k e p m path (t ∷ ts)) n o n₄
    junction-goes o₁ x s y w =
        let here = x way.real g₁ in
        let g₂ = passing_kept way.real here g₁ in
        let longer = path ++ (t ∷ []) in
        let beyond : Ways c longer (from_junction c (destination c t)) = λ u j. further c rt u way s j in
        first_goes c k e p m l path ts t _ q pd here
        (λ m' i. ran-goes c k e p here.how m' path t here.says (no-goes _ _ _ s
        (rw (along-longer path t o₁) at
        (own-goes c k e p m' (l + 1) longer (from_junction c (destination c t)) o₁ (one-longer path t z) (omega arith) beyond g₂ y))))
        (w g₂ here.few)
