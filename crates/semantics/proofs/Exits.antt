-- Leaving is 002's exit. 01 leaves whichever children are active, and a history parent records a child as it is left; 002
-- leaves the one active child of a one-of state, then records it, or each child of any other. They agree where demand 3's shape
-- holds from the state on down, since then one child is active, or all are; and the record is a byte that nothing between reads.
-- Assumes nothing.
use mathlib.Core.Path.{◌≡◌, refl, sym, subst, ◌∙◌}
use mathlib.Core.Logic.{inl, inr}
use mathlib.Core.Bool.{true, false}
use mathlib.Core.List.Memᴰ
use mathlib.Core.List.{List, [], ◌∷◌}
use Prim.Native.Nat.{ℕ, zero, suc, ◌+◌, ◌/◌, ◌≤◌, ◌<◌}
use native.Mathlib.Decide.{ℕ_discrete}
use native.Mathlib.Omega.{arith}
use lib.Seq.{get_or-set_other, set_comm}
use Rattle.rules.specs.Lists.{when◌then◌else◌}
use Rattle.rules.specs.Chart.{State, Chart, states, parent, exit, is_one_of, keeps_history, children, children_down}
use Rattle.rules.specs.Image.{Image, is_active, deactivate, record_child}
use Rattle.rules.specs.Doing.{Now, Done, done, give, ◌>>◌, change, pay, Act, state_left, note, each, when_active}
use Rattle.rules.specs.Block.{action}
use Rattle.rules.specs.Fire.{leave_each, parent_records, leave}
use Rattle.rules.proofs.Laws.{two, clash, not_yes}
use Rattle.rules.proofs.Members.{Mem, is_in-mem, mem-is_in}
use Rattle.rules.proofs.Distinct.{Distinct}
use Rattle.rules.proofs.Weights.{weigh, down-distinct}
use Rattle.rules.proofs.Taken.{Child, Tree, Right, children-mem, mem-children, children_down-mem, mem-children_down, tree, exit-valid, exit-silent}
use Rattle.rules.proofs.Trees.{Deep, child-more, sibling, deep-child, deep-end, low}
use Rattle.rules.proofs.Soundness.{Sound}
use Rattle.rules.proofs.Shape.{Fine}
use Rattle.rules.proofs.Leaving.{Left, leaving_cost, t-leave_each, t-leave}
use Rattle.semantics.specs.Relation as R
use Rattle.semantics.specs.Relation.{⇝exS, ⇝exC, ⇝exSL, ◌⊢◌, Goes, ActiveChild, records}
use Rattle.semantics.proofs.Actions.{action-sound}
use Rattle.semantics.proofs.Inverting.{kept, paid, then-inv, then-goes, done-inv, done-goes, choose-inv, no-goes, active-inv, idle-inv, active-goes, idle-goes, none-inv, none-goes, more-inv, more-goes}

-- a record and an active bit are different bytes
swapped : (im : Image) (p s : State) → s < 64 → deactivate (record_child im p s) s ≡ record_child (deactivate im s) p s
swapped im p s h =
    let d : 2 + s / 8 ≡ 10 + p → ⊥ = λ e. omega arith in
    let d' : 10 + p ≡ 2 + s / 8 → ⊥ = λ e. omega arith in
    rw (get_or-set_other im (10 + p) (2 + s / 8) s 0 d) (set_comm im (10 + p) (2 + s / 8) s _ d')

-- a change may go first or last, around another that it does not meet and an item that is noted
last : (f g : Image → Image) (act : Act) (k : ℕ) (im : Image) (u r : ℕ) (t : List ℕ) → g (f im) ≡ f (g im)
    → let n : Now = record { image = im; units = u; room = r; trace = t } in
    (change f >> (change g >> note act k)) n ≡ ((change g >> note act k) >> change f) n
unfolding ◌>>◌ change note
last f g act k im u zero t e = refl
last f g act k im u (suc r) t e = rw e

module _ (c : Chart) where
  -- s becomes inactive, and that is noted
  abbrev off : State → Done
  off s = change (λ im. deactivate im s) >> note state_left s

  -- the record before or after that
  record-last : (s : State) → s < 64 → (n : Now) → (parent_records c s >> off s) n ≡ (off s >> parent_records c s) n
  unfolding parent_records change done give when◌then◌else◌
  record-last s h n =
      elim (two (keeps_history c (parent c s))) [
        | inl e ↦ rw e (last _ _ state_left s n.image n.units n.room n.trace (swapped n.image (parent c s) s h))
        | inr e ↦ rw e (last (λ im. im) _ state_left s n.image n.units n.room n.trace refl)
      ]

  -- what a history parent records, from the child and from the parent
  to-records : {p q : State} {n n' : Now} → Child c p q → Goes (parent_records c q) n n' → Goes (records c p q) n n'
  unfolding parent_records
  to-records {q = q} {n} {n'} ch w = subst (λ (x : State). Goes (records c x q) n n') ch.of w

  pub from-records : {p q : State} {n n' : Now} → Child c p q → Goes (records c p q) n n' → Goes (parent_records c q) n n'
  unfolding parent_records
  from-records {q = q} {n} {n'} ch w = subst (λ (x : State). Goes (records c x q) n n') (sym ch.of) w

  -- leaving, in 002's order
  leave-goes : (d : ℕ) (s : State) → s < 64 → {n n₁ n₂ n₃ n₄ n₅ n₆ : Now} → Goes pay n n₁
      → Goes (leave_each c (leave c d) s) n₁ n₂ → Goes (action c (exit c s)) n₂ n₃ → Goes (change (λ im. deactivate im s)) n₃ n₄
      → Goes (note state_left s) n₄ n₅ → Goes (parent_records c s) n₅ n₆ → Goes (leave c (suc d) s) n n₆
  unfolding leave
  leave-goes d s h {n₃ = n₃} pd x a o i r =
      then-goes pd (then-goes x (then-goes a (record { is = record-last s h n₃ ∙ (then-goes (then-goes o i) r).is })))

  -- none of a list is active
  idle-all : (f : State → Done) (xs : List State) {n n' : Now} → ((j : State) → Mem j xs → is_active n.image j ≡ false)
      → Goes (each (λ k. when_active k (f k)) xs) n n' → n ≡ n'
  idle-all f [] o w = none-inv _ w
  idle-all f (x ∷ xs) {n} {n'} o w =
      let b = more-inv _ x xs w in
      let e : n ≡ b.mid = idle-inv x (f x) (o x (Memᴰ.head refl)) b.before in
      idle-all f xs (λ j m. o j (Memᴰ.tail m)) (rw (← e) at b.behind)

  idle-all-goes : (f : State → Done) (xs : List State) {n : Now} → ((j : State) → Mem j xs → is_active n.image j ≡ false)
      → Goes (each (λ k. when_active k (f k)) xs) n n
  idle-all-goes f [] o = none-goes _
  idle-all-goes f (x ∷ xs) o =
      more-goes _ x xs (idle-goes x (f x) (o x (Memᴰ.head refl))) (idle-all-goes f xs (λ j m. o j (Memᴰ.tail m)))

later : {q y : State} {ys : List State} → Mem q (y ∷ ys) → (y ≡ q → ⊥) → Mem q ys
later i ne = elim (Memᴰ.cases_cons i) [ inl e ↦ absurd (ne (sym e)) | inr i' ↦ i' ]

-- p is active, and the shape holds from p on
pub record Standing (c : Chart) (p : State) (im : Image) : Type 0 where
  pub sound : Sound c im
  pub on : is_active im p ≡ true
  pub fine : (x : State) → x < states c → p ≤ x → Fine c (is_active im) x

-- the children of p in ps are still to be left, and all of them stand
pub record Remaining (c : Chart) (p : State) (ps : List State) (im : Image) : Type 0 where
  pub sound : Sound c im
  pub kids : (j : State) → Mem j ps → Child c p j
  pub distinct : Distinct ps
  pub on : (j : State) → Mem j ps → is_active im j ≡ true
  pub fine : (x : State) → x < states c → p < x → Fine c (is_active im) x

module _ (c : Chart) (rt : Right c) where
  tr : Tree c
  tr = tree c rt

  pub standing-child : {p q : State} {im : Image} → Child c p q → Standing c p im → is_active im q ≡ true → Standing c q im
  standing-child ch s a =
      record { sound = s.sound; on = a; fine = λ x h l. s.fine x h (omega (arith, child-more c tr ch)) }

  pub standing-first : {p k : State} {ks : List State} {im : Image} → Remaining c p (k ∷ ks) im → Standing c k im
  standing-first {k = k} r =
      record {
        sound = r.sound;
        on = r.on k (Memᴰ.head refl);
        fine = λ x h l. r.fine x h (omega (arith, child-more c tr (r.kids k (Memᴰ.head refl))));
      }

  pub remaining-rest : {p k : State} {ks : List State} {im im' : Image} → Remaining c p (k ∷ ks) im → Left c k im im'
      → Remaining c p ks im'
  remaining-rest {p} {k} {ks} r le =
      let ck = r.kids k (Memᴰ.head refl) in
      record {
        sound = le.moved.sound;
        kids = λ j m. r.kids j (Memᴰ.tail m);
        distinct = r.distinct.1;
        on = λ j m.
            let cj = r.kids j (Memᴰ.tail m) in
            le.moved.frame j cj.state (sibling c tr ck cj (λ e. r.distinct.0 (rw e at m))) ∙ r.on j (Memᴰ.tail m);
        fine = λ x h l. le.moved.fine x h (λ e. omega (arith, ck.of)) (r.fine x h l);
      }

  remaining-all : {p : State} {im : Image} → p < states c → is_one_of c p ≡ false → Standing c p im
      → Remaining c p (children_down c p) im
  remaining-all {p} h o s =
      record {
        sound = s.sound;
        kids = λ j m. children_down-mem c p m;
        distinct = down-distinct c p;
        on = λ j m. (s.fine p h (omega arith)).all s.on o j (children_down-mem c p m);
        fine = λ x l g. s.fine x l (omega arith);
      }

  -- the one active child, and no other is
  record Sole (p q : State) (im : Image) : Type 0 where
    child : Child c p q
    active : is_active im q ≡ true
    only : (j : State) → Child c p j → (j ≡ q → ⊥) → is_active im j ≡ false

  sole : {p : State} {im : Image} → p < states c → is_one_of c p ≡ true → Standing c p im → (q : State) × Sole p q im
  sole {p} {im} h o s =
      let (q, ch, a, u) = (s.fine p h (omega arith)).one s.on o in
      (q, record { child = ch; active = a; only = λ j cj d. not_yes (is_active im j) (λ e. d (u j cj e)) })

  sole_of : {p q : State} {im : Image} → p < states c → is_one_of c p ≡ true → Standing c p im → ActiveChild c im p q
      → Sole p q im
  sole_of {p} {q} h o s a =
      let (k, u) = sole h o s in
      let ch = children-mem c p (is_in-mem q (children c p) a.child) in
      elim (ℕ_discrete q k) [ yes e ↦ rw e u | no ne ↦ clash a.active (u.only q ch ne) ]

  -- a child of a state that is not one-of is recorded nowhere
  not-recorded : {p k : State} → p < states c → is_one_of c p ≡ false → Child c p k → keeps_history c (parent c k) ≡ false
  not-recorded h o ch = rw ch.of (tr.histories _ h o)

  pub unrecorded-goes : {p k : State} {m : Now} → p < states c → is_one_of c p ≡ false → Child c p k → Goes (parent_records c k) m m
  unfolding parent_records
  unrecorded-goes h o ch = no-goes _ _ _ (not-recorded h o ch) done-goes

  unrecorded-inv : {p k : State} {m m' : Now} → p < states c → is_one_of c p ≡ false → Child c p k
      → Goes (parent_records c k) m m' → m ≡ m'
  unfolding parent_records
  unrecorded-inv h o ch w =
      elim (choose-inv _ _ _ w) [ inl (e, v) ↦ clash e (not-recorded h o ch) | inr (e, v) ↦ done-inv v ]

  -- n levels down, with d to go
  module _ (d n : ℕ) (l : n + d ≡ 9) where
    pub left_after : {k : State} {m m' : Now} → 0 < k → k < states c → Deep c n k → Sound c m.image → Goes (leave c d k) m m'
        → Left c k m.image m'.image
    left_after {k} {m} z h deep s w = kept (t-leave c rt d n l k z h deep m.image s) w refl

    -- the image is sound where the children of p were left
    pub emptied-sound : (p : State) → ((k : State) → Child c p k → Deep c n k) → {m m' : Now}
        → Goes (leave_each c (leave c d) p) m m' → Sound c m.image → Sound c m'.image
    emptied-sound p deep {m} w s =
        (kept (t-leave_each c rt p m.image s (weigh c (leaving_cost c) d) (leave c d)
        (λ k ch. t-leave c rt d n l k ch.above ch.state (deep k ch))) w refl).moved.sound

    -- of a one-of state's children, q alone is left
    module _ (p q : State) (deep : Deep c n q) where
      abbrev leaving : List State → Done
      leaving = each (λ k. when_active k (leave c d k))

      none_after : {m m' : Now} → Sound c m.image → Sole p q m.image → Goes (leave c d q) m m'
          → (j : State) → Child c p j → is_active m'.image j ≡ false
      none_after s o w j cj =
          let le = left_after o.child.above o.child.state deep s w in
          elim (ℕ_discrete j q) [
            | yes e ↦ rw e le.gone
            | no ne ↦ le.moved.frame j cj.state (sibling c tr o.child cj ne) ∙ o.only j cj ne
          ]

      sole-inv : (xs : List State) → ((j : State) → Mem j xs → Child c p j) → Mem q xs → {m m' : Now} → Sound c m.image
          → Sole p q m.image → Goes (leaving xs) m m' → Goes (leave c d q) m m'
      sole-inv [] kids i s o w = absurd (Memᴰ.not-nil i)
      sole-inv (y ∷ ys) kids i {m} {m'} s o w =
          let b = more-inv _ y ys w in
          elim (ℕ_discrete y q) [
            | yes e ↦
                let u = active-inv y (leave c d y) (rw e o.active) b.before in
                let v = subst (λ (x : State). Goes (leave c d x) m b.mid) e u in
                rw (← idle-all c _ ys (λ j k. none_after s o v j (kids j (Memᴰ.tail k))) b.behind) v
            | no ne ↦
                let e : m ≡ b.mid = idle-inv y (leave c d y) (o.only y (kids y (Memᴰ.head refl)) ne) b.before in
                sole-inv ys (λ j k. kids j (Memᴰ.tail k)) (later i ne) s o (rw (← e) at b.behind)
          ]

      sole-goes : (xs : List State) → ((j : State) → Mem j xs → Child c p j) → Mem q xs → {m m' : Now} → Sound c m.image
          → Sole p q m.image → Goes (leave c d q) m m' → Goes (leaving xs) m m'
      sole-goes [] kids i s o w = absurd (Memᴰ.not-nil i)
      sole-goes (y ∷ ys) kids i {m} {m'} s o w =
          elim (ℕ_discrete y q) [
            | yes e ↦
                rw e (more-goes _ q ys (active-goes q (leave c d q) o.active w)
                (idle-all-goes c _ ys (λ j k. none_after s o w j (kids j (Memᴰ.tail k)))))
            | no ne ↦
                more-goes _ y ys (idle-goes y (leave c d y) (o.only y (kids y (Memᴰ.head refl)) ne))
                (sole-goes ys (λ j k. kids j (Memᴰ.tail k)) (later i ne) s o w)
          ]

    -- to leave the active child is to leave the composition
    pub exO-goes : {p q : State} {m m' : Now} → p < states c → is_one_of c p ≡ true → ((k : State) → Child c p k → Deep c n k)
        → Standing c p m.image → ActiveChild c m.image p q → Goes (leave c d q) m m'
        → Goes (leave_each c (leave c d) p) m m'
    unfolding leave_each
    exO-goes {p} {q} h o deep s a w =
        let u = sole_of h o s a in
        sole-goes p q (deep q u.child) (children_down c p) (λ j k. children_down-mem c p k) (mem-children_down c p q u.child)
        s.sound u w

    -- what leaving k comes to, in 002's rules
    abbrev Exited : State → Now → Now → Type 0
    Exited k m m' = (m₁ : Now) × (c ⊢ ⇝exS k m m₁) × Goes (parent_records c k) m₁ m'

    module _ (p : State) (h : p < states c) (deep : (k : State) → Child c p k → Deep c n k)
        (exits : (k : State) → Child c p k → (m m' : Now) → Standing c k m.image → Goes (leave c d k) m m'
        → Exited k m m') where
      list-exits : is_one_of c p ≡ false → (ks : List State) {m m' : Now} → Remaining c p ks m.image
          → Goes (each (λ k. when_active k (leave c d k)) ks) m m' → c ⊢ ⇝exSL ks m m'
      list-exits o [] r w = rw (none-inv _ w) R.exSL0
      list-exits o (k ∷ ks) {m} {m'} r w =
          let b = more-inv _ k ks w in
          let ch = r.kids k (Memᴰ.head refl) in
          let v = active-inv k (leave c d k) (r.on k (Memᴰ.head refl)) b.before in
          let (m₁, x, q) = exits k ch m b.mid (standing-first r) v in
          let e : m₁ ≡ b.mid = unrecorded-inv h o ch q in
          let le = left_after ch.above ch.state (deep k ch) r.sound v in
          R.exSL (rw e at x) (list-exits o ks (remaining-rest r le) b.behind)

      composition-exits : {m m' : Now} → Standing c p m.image → Goes (leave_each c (leave c d) p) m m' → c ⊢ ⇝exC p m m'
      unfolding leave_each
      composition-exits {m} {m'} s w =
          elim (two (is_one_of c p)) [
            | inl o ↦
                let (q, u) = sole h o s in
                let ch = u.child in
                let v = sole-inv p q (deep q ch) (children_down c p) (λ j k. children_down-mem c p k) (mem-children_down c p q ch)
                s.sound u w in
                let (m₁, x, r) = exits q ch m m' (standing-child ch s u.active) v in
                let among = mem-is_in q (children c p) (mem-children c p q ch) in
                R.exO o (record { child = among; active = u.active }) x (to-records c ch r)
            | inr o ↦ R.exA o (list-exits o (children_down c p) (remaining-all h o s) w)
          ]

  leave-sound : (d n : ℕ) (l : n + d ≡ 9) (k : State) → 0 < k → k < states c → Deep c n k → (m m' : Now)
      → Standing c k m.image
      → Goes (leave c d k) m m' → Exited d n l k m m'
  unfolding leave
  leave-sound zero n l k z h deep m m' s w = absurd (deep-end c tr n k (omega arith) h deep)
  leave-sound (suc d) n l k z h deep m m' s w =
      let b₁ = then-inv _ _ w in
      let b₂ = then-inv _ _ b₁.behind in
      let b₃ = then-inv _ _ b₂.behind in
      let b₄ = then-inv _ (parent_records c k) (record { is = sym (record-last c k (low c tr h) b₃.mid) ∙ b₃.behind.is }) in
      let b₅ = then-inv _ _ b₄.before in
      let deeper : (j : State) → Child c k j → Deep c (suc n) j = λ j ch. deep-child c tr n deep ch in
      let s₁ = paid (Standing c k) b₁.before s in
      let x = composition-exits d (suc n) (omega arith) k h deeper
      (λ j ch. leave-sound d (suc n) (omega arith) j ch.above ch.state (deeper j ch)) s₁ b₂.before in
      let (st, a) = action-sound c rt k (exit c k) (exit-valid c rt k h) (exit-silent c rt k h)
      (emptied-sound d (suc n) (omega arith) k deeper b₂.before s₁.sound) b₃.before in
      (b₄.mid, R.exS1 b₁.before x a b₅.before b₅.behind, b₄.behind)

  pub leave_each-sound : (p : State) → p < states c → {m m' : Now} → Standing c p m.image
      → Goes (leave_each c (leave c 9) p) m m'
      → c ⊢ ⇝exC p m m'
  leave_each-sound p h s w =
      composition-exits 9 0 refl p h (λ j ch. tt) (λ j ch. leave-sound 9 0 refl j ch.above ch.state tt) s w

  -- and back: the rules of exit, once their premises go
  pub exS1-goes : {p : State} {n n₁ n₂ n₃ n₄ n₅ n₆ : Now} → Goes pay n n₁
      → ((d m : ℕ) → m + d ≡ 9 → ((k : State) → Child c p k → Deep c m k) → Goes (leave_each c (leave c d) p) n₁ n₂)
      → Goes (action c (exit c p)) n₂ n₃ → Goes (change (λ im. deactivate im p)) n₃ n₄ → Goes (note state_left p) n₄ n₅
      → Goes (parent_records c p) n₅ n₆ → (d m : ℕ) → m + d ≡ 9 → p < states c → Deep c m p → Goes (leave c d p) n n₆
  exS1-goes {p} pd x a o i r zero m l h deep = absurd (deep-end c tr m p (omega arith) h deep)
  exS1-goes {p} pd x a o i r (suc d) m l h deep =
      leave-goes c d p (low c tr h) pd (x d (suc m) (omega arith) (λ k ch. deep-child c tr m deep ch)) a o i r

  pub exA-goes : (d : ℕ) {p : State} {n n' : Now} → p < states c → is_one_of c p ≡ false → Standing c p n.image
      → (Remaining c p (children_down c p) n.image → Goes (each (λ k. when_active k (leave c d k)) (children_down c p)) n n')
      → Goes (leave_each c (leave c d) p) n n'
  unfolding leave_each
  exA-goes d h o s x = x (remaining-all h o s)
