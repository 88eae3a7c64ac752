-- Entering is 002's entry: which child of a one-of state is entered is settled alike, and an image stays sound, so that what it
-- records is a child, and the levels do not run out. Assumes nothing.
use mathlib.Core.Path.{◌≡◌, refl, sym, ◌∙◌}
use mathlib.Core.Logic.{◌⊎◌, inl, inr}
use mathlib.Core.Bool.{true, false}
use mathlib.Core.List.Memᴰ
use mathlib.Core.List.{List, [], ◌∷◌}
use Prim.Native.Nat.{ℕ, zero, suc, ◌+◌, ◌<◌}
use native.Mathlib.Omega.{arith}
use Rattle.rules.specs.Lists.{when◌then◌else◌, ◌else◌}
use Rattle.rules.specs.Chart.{State, Chart, states, initial, entry, is_one_of, keeps_history, children}
use Rattle.rules.specs.Image.{Image, recorded, activate}
use Rattle.rules.specs.Doing.{Now, Done, change, pay, state_entered, note, each}
use Rattle.rules.specs.Block.{action}
use Rattle.rules.specs.Fire.{on_the_way, to_enter, enter_each, enter}
use Rattle.rules.proofs.Laws.{two, clash}
use Rattle.rules.proofs.Members.{Mem}
use Rattle.rules.proofs.Taken.{Child, Tree, Right, children-mem, tree, entry-valid, entry-silent}
use Rattle.rules.proofs.Trees.{Deep, deep-child, deep-end}
use Rattle.rules.proofs.Bounded.{Bounded}
use Rattle.rules.proofs.Soundness.{Sound, activate-sound}
use Rattle.rules.proofs.Triple.{t-change}
use Rattle.semantics.specs.Relation as R
use Rattle.semantics.specs.Relation.{⇝enS, ⇝enC, ⇝enSL, ◌⊢◌, Goes, tail, towards}
use Rattle.semantics.proofs.Actions.{action-sound, action-kept}
use Rattle.semantics.proofs.Towards.{Towards, on-way, off-way, each_way}
use Rattle.semantics.proofs.Inverting.{kept, paid, noted, then-inv, bind_inv, then-goes, bind_goes, look-inv, look-goes, none-inv, none-goes, more-inv, more-goes}

else-first : (a b : ℕ) → 0 < a → (a else b) ≡ a
unfolding ◌else◌
else-first zero b h = absurd (omega arith)
else-first (suc a) b h = refl

else-second : (a b : ℕ) → a ≡ 0 → (a else b) ≡ b
unfolding ◌else◌
else-second a b e = rw e

-- the choice of a child, by the rules that make it
module _ (c : Chart) (f : State → Done) (h p : State) where
  entered-goes : {m m' : Now} → Goes (each f (to_enter c p h m.image)) m m' → Goes (enter_each c f h p) m m'
  unfolding enter_each
  entered-goes w = bind_goes _ look-goes w

  entered-inv : {m m' : Now} → Goes (enter_each c f h p) m m' → Goes (each f (to_enter c p h m.image)) m m'
  unfolding enter_each
  entered-inv w = let b = bind_inv _ _ w in let (i, e) = look-inv b.before in rw (i, e) at b.behind

  one-goes : (s : State) {m m' : Now} → is_one_of c p ≡ true → (on_the_way c p h else recorded m.image p else initial c p) ≡ s
      → Goes (f s) m m' → Goes (enter_each c f h p) m m'
  unfolding to_enter when◌then◌else◌
  one-goes s o e w = entered-goes (rw (o, e) (more-goes f s [] w (none-goes f)))

  one-inv : {m m' : Now} → is_one_of c p ≡ true → Goes (enter_each c f h p) m m'
      → Goes (f (on_the_way c p h else recorded m.image p else initial c p)) m m'
  unfolding to_enter when◌then◌else◌
  one-inv {m} {m'} o w =
      let b = more-inv f _ [] (rw o at (entered-inv w)) in
      rw (sym (none-inv f b.behind)) b.before

  pub all-goes : {m m' : Now} → is_one_of c p ≡ false → Goes (each f (children c p)) m m' → Goes (enter_each c f h p) m m'
  unfolding to_enter when◌then◌else◌
  all-goes o w = entered-goes (rw o w)

  all-inv : {m m' : Now} → is_one_of c p ≡ false → Goes (enter_each c f h p) m m' → Goes (each f (children c p)) m m'
  unfolding to_enter when◌then◌else◌
  all-inv o w = rw o at (entered-inv w)

  pub enO1-goes : {k : State} {m m' : Now} → is_one_of c p ≡ true → on_the_way c p h ≡ k → 0 < k → Goes (f k) m m'
      → Goes (enter_each c f h p) m m'
  enO1-goes {k} o e z w = one-goes k o (else-first (on_the_way c p h) _ (omega arith) ∙ e) w

  pub enO2-goes : {m m' : Now} → is_one_of c p ≡ true → on_the_way c p h ≡ 0 → 0 < recorded m.image p
      → Goes (f (recorded m.image p)) m m' → Goes (enter_each c f h p) m m'
  enO2-goes o z r w = one-goes _ o (else-second _ _ z ∙ else-first _ _ r) w

  pub enO3-goes : {m m' : Now} → is_one_of c p ≡ true → on_the_way c p h ≡ 0 → recorded m.image p ≡ 0 → Goes (f (initial c p)) m m'
      → Goes (enter_each c f h p) m m'
  enO3-goes o z r w = one-goes _ o (else-second _ _ z ∙ else-second _ _ r) w

module _ (c : Chart) (rt : Right c) where
  tr : Tree c
  tr = tree c rt

  pub enter-goes : (d : ℕ) (h k : State) {n n₁ n₂ n₃ n₄ n₅ : Now} → Goes pay n n₁ → Goes (change (λ im. activate im k)) n₁ n₂
      → Goes (note state_entered k) n₂ n₃ → Goes (action c (entry c k)) n₃ n₄ → Goes (enter_each c (enter c d h) h k) n₄ n₅
      → Goes (enter c (suc d) h k) n n₅
  unfolding enter
  enter-goes d h k pd o i a x = then-goes pd (then-goes o (then-goes i (then-goes a x)))

  -- k was made active, its entry action not yet performed; and behind that
  begun-sound : {k : State} → k < states c → {n n₁ n₂ n₃ : Now} → Goes pay n n₁ → Goes (change (λ im. activate im k)) n₁ n₂
      → Goes (note state_entered k) n₂ n₃ → Sound c n.image → Sound c n₃.image
  begun-sound {k} h pd o i s =
      noted (Sound c) state_entered k i
      (kept (t-change {B = Bounded c} {P = Sound c} {Q = Sound c} _ (λ im q. activate-sound c tr im k h q)) o
      (paid (Sound c) pd s))

  pub ready-sound : {k : State} → k < states c → {n n₁ n₂ n₃ n₄ : Now} → Goes pay n n₁
      → Goes (change (λ im. activate im k)) n₁ n₂ → Goes (note state_entered k) n₂ n₃ → Goes (action c (entry c k)) n₃ n₄
      → Sound c n.image → Sound c n₄.image
  ready-sound {k} h pd o i a s = action-kept c rt (entry c k) (entry-valid c rt k h) a (begun-sound h pd o i s)

  -- whoever is recorded is a child
  pub record-child : {p : State} {im : Image} → p < states c → Sound c im → 0 < recorded im p
      → (keeps_history c p ≡ true) × Child c p (recorded im p)
  record-child {p} h s z = elim (s.records p h) [ inl e ↦ absurd (omega arith) | inr q ↦ q ]

  pub no_record : {p : State} {im : Image} → p < states c → Sound c im → (recorded im p ≡ 0) ⊎ (keeps_history c p ≡ false)
      → recorded im p ≡ 0
  no_record h s (inl e) = e
  no_record {p} h s (inr e) = elim (s.records p h) [ inl q ↦ q | inr q ↦ clash q.0 e ]

  -- to enter t, which is a state of the chart; n levels down, with d to go
  module _ (t : State) (real : t < states c) where
    module _ (d n : ℕ) (l : n + d ≡ 9)
        (enters : (k : State) (h : List State) → Towards c t k (tail h) → k < states c → Deep c n k → (m m' : Now)
        → Goes (enter c d t k) m m' → Sound c m.image → (c ⊢ ⇝enS h k m m') × Sound c m'.image) where
      list-enters : (h ks : List State)
          → ((k : State) → Mem k ks → Towards c t k (tail (towards k h)) × (k < states c) × Deep c n k)
          → {m m' : Now} → Goes (each (enter c d t) ks) m m' → Sound c m.image → (c ⊢ ⇝enSL h ks m m') × Sound c m'.image
      list-enters h [] deep w s = let e = none-inv _ w in (rw e R.enSL0, rw (← e) s)
      list-enters h (k ∷ ks) deep {m} w s =
          let b = more-inv _ k ks w in
          let (way, q, dk) = deep k (Memᴰ.head refl) in
          let (x, s₁) = enters k (towards k h) way q dk m b.mid b.before s in
          let (y, s₂) = list-enters h ks (λ j i. deep j (Memᴰ.tail i)) b.behind s₁ in
          (R.enSL x y, s₂)

      module _ (p : State) (q : p < states c) (deep : (k : State) → Child c p k → Deep c n k) {m m' : Now}
          (s : Sound c m.image) where
        -- with no path: the recorded child, or the initial one
        no-path-enters : is_one_of c p ≡ true → Towards c t p [] → (r : State) → r ≡ recorded m.image p
            → Goes (enter c d t (r else initial c p)) m m' → (c ⊢ ⇝enC [] p m m') × Sound c m'.image
        unfolding ◌else◌
        no-path-enters o way zero i w =
            let ch = tr.initials p q o in
            let (x, u) = enters _ [] ((off-way c rt t real way).1 _ ch) ch.state (deep _ ch) m m' w s in
            (R.enO3 o (inl (sym i)) x, u)
        no-path-enters o way (suc r) i w =
            let z : 0 < recorded m.image p = omega arith in
            let (kh, ch) = record-child q s z in
            let (x, u) = enters _ [] ((off-way c rt t real way).1 _ ch) ch.state (deep _ ch) m m' (rw i at w) s in
            (R.enO2 o kh z x, u)

        one-enters : is_one_of c p ≡ true → (h : List State) → Towards c t p h
            → Goes (enter c d t (on_the_way c p t else recorded m.image p else initial c p)) m m'
            → (c ⊢ ⇝enC h p m m') × Sound c m'.image
        one-enters o [] way w = no-path-enters o way _ refl (rw (else-second _ _ (off-way c rt t real way).0) at w)
        one-enters o (k ∷ h) way w =
            let (e, ch, b, next) = on-way c rt t real way in
            let e' = else-first (on_the_way c p t) (recorded m.image p else initial c p) (omega arith) ∙ e in
            let (x, u) = enters k (k ∷ h) next ch.state (deep k ch) m m' (rw e' at w) s in
            (R.enO1 o x, u)

        composition-enters : (h : List State) → Towards c t p h → Goes (enter_each c (enter c d t) t p) m m'
            → (c ⊢ ⇝enC h p m m') × Sound c m'.image
        composition-enters h way w =
            elim (two (is_one_of c p)) [
              | inl o ↦ one-enters o h way (one-inv c (enter c d t) t p o w)
              | inr o ↦
                  let (x, u) = list-enters h (children c p)
                  (λ k i. let ch = children-mem c p i in (each_way c rt t real h way k ch, ch.state, deep k ch))
                  (all-inv c (enter c d t) t p o w) s in
                  (R.enA o x, u)
            ]

    pub enter-sound : (d n : ℕ) → n + d ≡ 9 → (k : State) (h : List State) → Towards c t k (tail h) → k < states c → Deep c n k
        → (m m' : Now) → Goes (enter c d t k) m m' → Sound c m.image → (c ⊢ ⇝enS h k m m') × Sound c m'.image
    unfolding enter
    enter-sound zero n l k h way q deep m m' w s = absurd (deep-end c tr n k (omega arith) q deep)
    enter-sound (suc d) n l k h way q deep m m' w s =
        let b₁ = then-inv _ _ w in
        let b₂ = then-inv _ _ b₁.behind in
        let b₃ = then-inv _ _ b₂.behind in
        let b₄ = then-inv _ _ b₃.behind in
        let begun = begun-sound q b₁.before b₂.before b₃.before s in
        let (st, a) = action-sound c rt k (entry c k) (entry-valid c rt k q) (entry-silent c rt k q) begun b₄.before in
        let ready = ready-sound q b₁.before b₂.before b₃.before b₄.before s in
        let (x, u) = composition-enters d (suc n) (omega arith) (enter-sound d (suc n) (omega arith)) k q
        (λ j ch. deep-child c tr n deep ch) ready (tail h) way b₄.behind in
        (R.enS b₁.before b₂.before b₃.before a x, u)

    pub enter_each-sound : (p : State) (h : List State) → Towards c t p h → p < states c → {m m' : Now}
        → Goes (enter_each c (enter c 9 t) t p) m m' → Sound c m.image → c ⊢ ⇝enC h p m m'
    enter_each-sound p h way q w s =
        (composition-enters 9 0 refl (enter-sound 9 0 refl) p q (λ k ch. tt) s h way w).0
