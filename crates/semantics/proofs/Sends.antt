-- Blocks whose instructions may send are 002's actions: an op is a send, or does the same whatever a send does; and while the
-- owner is there, so is the shape. Assumes nothing.
use mathlib.Core.Path.{◌≡◌, refl, sym, subst, ◌∙◌}
use mathlib.Core.Logic.{inl, inr}
use mathlib.Core.Bool.{true, false}
use mathlib.Core.List.{List}
use Prim.Native.Nat.{ℕ, zero, suc, ◌<◌}
use lib.IntN.{pos}
use Rattle.rules.specs.Lists.{when◌then◌else◌, every}
use Rattle.rules.specs.Chart as C
use Rattle.rules.specs.Chart.{State, Chart, Op, Instruction, states}
use Rattle.rules.specs.Accept.{is_send, op_rule, operands_right}
use Rattle.rules.specs.Image.{Image, is_active}
use Rattle.rules.specs.Doing.{Now}
use Rattle.rules.specs.Block.{Stack, Ran, ran, abandoned, gone, SendOp, no_send, send_from, sent_to, instruct, perform}
use Rattle.rules.specs.Fire.{levels}
use Rattle.rules.specs.Run.{run, send}
use Rattle.rules.proofs.Laws.{two, clash}
use Rattle.rules.proofs.Taken.{Tree, Right, has_operands, tree, operand-names}
use Rattle.rules.proofs.Blocks.{How, keeps-set, t-instruct}
use Rattle.rules.proofs.Triple.{t_same}
use Rattle.rules.proofs.Shape.{Good}
use Rattle.rules.proofs.Firing.{Going}
use Rattle.rules.proofs.Running.{going, going-quiet, t-run, t-send}
use Rattle.semantics.specs.Relation as R
use Rattle.semantics.specs.Relation.{⇝a, ⇝i, ⇝runS, ◌⊢◌, Gives, Goes}
use Rattle.semantics.proofs.Actions.{block-sound}
use Rattle.semantics.proofs.Inverting.{kept, then-inv, bind_inv, then-goes, bind_goes, give-inv, give-goes, look-inv, look-goes, refuse-inv, active-inv, idle-inv, active-goes, idle-goes}

-- an op is a send, or it does the same whatever a send does
data Kind (i : Instruction) (s₁ s₂ : SendOp) (st : Stack) : Op → Type 0 where
  is-send : Kind i s₁ s₂ st C.send
  is_plain : {o : Op} → is_send o ≡ false → instruct s₁ o i st ≡ instruct s₂ o i st → Kind i s₁ s₂ st o

kind-of : (i : Instruction) (s₁ s₂ : SendOp) (st : Stack) (o : Op) → Kind i s₁ s₂ st o
unfolding instruct is_send op_rule
kind-of i s₁ s₂ st C.push = is_plain {o = C.push} refl refl
kind-of i s₁ s₂ st C.load = is_plain {o = C.load} refl refl
kind-of i s₁ s₂ st C.store = is_plain {o = C.store} refl refl
kind-of i s₁ s₂ st C.add = is_plain {o = C.add} refl refl
kind-of i s₁ s₂ st C.subtract = is_plain {o = C.subtract} refl refl
kind-of i s₁ s₂ st C.multiply = is_plain {o = C.multiply} refl refl
kind-of i s₁ s₂ st C.quotient = is_plain {o = C.quotient} refl refl
kind-of i s₁ s₂ st C.remainder = is_plain {o = C.remainder} refl refl
kind-of i s₁ s₂ st C.less = is_plain {o = C.less} refl refl
kind-of i s₁ s₂ st C.equal = is_plain {o = C.equal} refl refl
kind-of i s₁ s₂ st C.not = is_plain {o = C.not} refl refl
kind-of i s₁ s₂ st C.raise = is_plain {o = C.raise} refl refl
kind-of i s₁ s₂ st C.send = is-send
kind-of i s₁ s₂ st C.unknown = is_plain {o = C.unknown} refl refl

-- 002's flag of early return is that the owner is gone
flag : (p : State) (st : Stack) (im : Image)
    → (when gone p im then abandoned else ran st) ≡ (when is_active im p then ran st else abandoned)
unfolding gone when◌then◌else◌
flag p st im = elim (two (is_active im p)) [ inl e ↦ rw e | inr e ↦ rw e ]

there : (p : State) (st : Stack) (im : Image) → is_active im p ≡ true → (when is_active im p then ran st else abandoned) ≡ ran st
unfolding when◌then◌else◌
there p st im e = rw e

-- what a send comes to, with k more to open
pub data Dispatch (c : Chart) : (k e : ℕ) (b : State) (n n' : Now) → Type 0 where
  sent : {k e : ℕ} {b : State} {n n' : Now} → is_active n.image b ≡ true → c ⊢ ⇝runS k e b n n' → Dispatch c (suc k) e b n n'
  unsent : {k e : ℕ} {b : State} {n : Now} → is_active n.image b ≡ false → Dispatch c k e b n n

-- each of them that goes comes to that
abbrev pub SendsSound : Chart → ℕ → Type 0
SendsSound c k =
    (e : ℕ) (b : State) (n n' : Now) → b < states c → Good c n.image → Goes (send c k e b) n n' → Dispatch c k e b n n'

module _ (c : Chart) (rt : Right c) where
  tr : Tree c
  tr = tree c rt

  sent-goes : (k e : ℕ) (b : State) {n n' : Now} → is_active n.image b ≡ true → Goes (run c (send c k) e levels b) n n'
      → Goes (send c (suc k) e b) n n'
  unfolding send
  sent-goes k e b a w = active-goes b _ a w

  unsent-goes : (k e : ℕ) (b : State) {n : Now} → is_active n.image b ≡ false → Goes (send c k e b) n n
  unfolding send
  unsent-goes zero e b a = idle-goes b _ a
  unsent-goes (suc k) e b a = idle-goes b _ a

  -- a send keeps the shape
  send-kept : (k e : ℕ) (b : State) → b < states c → {n n' : Now} → Goes (send c k e b) n n' → Good c n.image
      → Good c n'.image
  unfolding send
  send-kept zero e b h {n} w g =
      elim (two (is_active n.image b)) [
        | inl a ↦ refuse-inv 18 (active-inv b _ a w)
        | inr a ↦ rw (← idle-inv b _ a w) g
      ]
  send-kept (suc k) e b h {n} w g =
      elim (two (is_active n.image b)) [
        | inl a ↦
            kept (t-run c rt (send c k) (t-send c rt k) e 9 b h) (active-inv b _ a w) (going c rt h n.image (a, g))
        | inr a ↦ rw (← idle-inv b _ a w) g
      ]

  module _ (k : ℕ) (p : State) where
    -- an instruction, and a block from one on
    abbrev pub Does : Instruction → Stack → Op → Now → Ran → Now → Type 0
    Does i st o n r n' = Gives (instruct (send_from p (send c k)) o i st) n r n'

    abbrev pub Performs : Stack → List Instruction → Now → Ran → Now → Type 0
    Performs st is n r n' = Gives (perform (send_from p (send c k)) st is) n r n'

    does-send : (i : Instruction) (st : Stack) {b : State} {n n' : Now} → sent_to i ≡ b
        → Goes (send c k i.a b) n n' → Does i st C.send n (when is_active n'.image p then ran st else abandoned) n'
    unfolding instruct send_from
    does-send i st {n' = n'} e w =
        rw (e, ← flag p st n'.image) (bind_goes _ (then-goes w (bind_goes _ look-goes give-goes)) give-goes)

    did-send : (i : Instruction) (st : Stack) {b : State} {n n' : Now} {r : Ran} → sent_to i ≡ b
        → Does i st C.send n r n' → Goes (send c k i.a b) n n' × ((when is_active n'.image p then ran st else abandoned) ≡ r)
    unfolding instruct send_from
    did-send i st {n = n} {n' = n'} {r = r} e w =
        let b₁ = bind_inv _ _ w in
        let b₂ = then-inv _ _ b₁.before in
        let b₃ = bind_inv _ _ b₂.behind in
        let (x, y) = look-inv b₃.before in
        let (u, v) = give-inv b₃.behind in
        let (s, t) = give-inv b₁.behind in
        let m : b₂.mid ≡ n' = cc in
        let g : (when gone p n'.image then abandoned else ran st) ≡ r = cc in
        let to = sent_to i in
        let x = subst (λ (y : Now). Goes (send c k i.a to) n y) m b₂.before in
        (subst (λ (s : State). Goes (send c k i.a s) n n') e x, sym (flag p st n'.image) ∙ g)

    -- where its operands are right, an instruction of an owner that is there keeps the shape
    pub ins-kept : (i : Instruction) (st : Stack) {n n' : Now} (r : Ran) → has_operands c i ≡ true → Going c p n.image
        → Does i st i.op n r n' → How (Going c p) (Good c) r n'.image
    unfolding no_send when◌then◌else◌
    ins-kept i st {n} {n'} r v g w = go i.op refl (kind-of i (send_from p (send c k)) no_send st i.op) w
      where
        go : (o : Op) → i.op ≡ o → Kind i (send_from p (send c k)) no_send st o → Does i st o n r n'
            → How (Going c p) (Good c) r n'.image
        go o q is-send u =
            let (s, e, h, to) = operand-names c tr.most i v q in
            let (x, y) = did-send i st to u in
            let good = send-kept k i.a s h x g.0 in
            elim (two (is_active n'.image p)) [
              | inl a ↦ rw (← y, a) (going c rt g.1.state n'.image (a, good))
              | inr a ↦ rw (← y, a) good
            ]
        go o q (is_plain ne same) u =
            let right = subst (λ (x : Op). operands_right c (op_rule x).operands i ≡ true) q v in
            kept (t-instruct c tr (Going c p) (Good c) {send_op = no_send} (keeps-set c tr (λ im a. a.0.sound) (going-quiet c rt p))
            (λ never e b l. t_same false) o i st right (λ x. ne)) (rw same at u) g

    ins-sound : SendsSound c k → (i : Instruction) (st : Stack) {n n' : Now} (r : Ran) → has_operands c i ≡ true
        → Going c p n.image → Does i st i.op n r n' → c ⊢ ⇝i k p st i n n' r
    ins-sound sound i st {n} {n'} r v g w = go i.op refl (kind-of i (send_from p (send c k)) no_send st i.op) w
      where
        of_send : (s : State) (j : ℕ) (m m' : Now) → i.op ≡ C.send → i.b ≡ pos s → Going c p m.image
            → Dispatch c j i.a s m m' → c ⊢ ⇝i j p st i m m' (when is_active m'.image p then ran st else abandoned)
        of_send s j m m' q e a (sent on x) = R.SendF q e on x
        of_send s j m m' q e a (unsent off) = rw (there p st m.image a.1.on) (R.SendN q e off)

        go : (o : Op) → i.op ≡ o → Kind i (send_from p (send c k)) no_send st o → Does i st o n r n'
            → c ⊢ ⇝i k p st i n n' r
        go o q is-send u =
            let (s, e, h, to) = operand-names c tr.most i v q in
            let (x, y) = did-send i st to u in
            rw (← y) (of_send s k n n' q e g (sound i.a s n n' h g.0 x))
        go o q (is_plain ne same) u =
            let plain : is_send i.op ≡ false = rw q ne in
            R.Plain plain (subst (λ (x : Op). Gives (instruct no_send x i st) n r n') (sym q) (rw same at u))

    -- a block, from an instruction on
    pub perform-sound : SendsSound c k → (st : Stack) (is : List Instruction) (n n' : Now) (r : Ran)
        → every (has_operands c) is ≡ true → Going c p n.image → Performs st is n r n' → c ⊢ ⇝a k p st is n n' r
    perform-sound sound st is n n' r v g w =
        block-sound c k p (send_from p (send c k)) (has_operands c) (Going c p)
        (λ i st n n' r v g x. (ins-sound sound i st r v g x, λ st' e. rw e at (ins-kept i st r v g x))) st is n n' r v g w

    -- and back
    pub plain-goes : (i : Instruction) (st : Stack) {n n' : Now} {r : Ran} → is_send i.op ≡ false
        → Gives (instruct no_send i.op i st) n r n' → Does i st i.op n r n'
    unfolding is_send op_rule
    plain-goes i st {n} {n'} {r} ne w = go i.op ne (kind-of i (send_from p (send c k)) no_send st i.op) w
      where
        go : (o : Op) → is_send o ≡ false → Kind i (send_from p (send c k)) no_send st o → Gives (instruct no_send o i st) n r n'
            → Does i st o n r n'
        go o q is-send u = clash refl q
        go o q (is_plain x same) u = rw same u

  module _ (k : ℕ) (p b : State) (i : Instruction) (st : Stack) (v : has_operands c i ≡ true) (q : i.op ≡ C.send)
      (e : i.b ≡ pos b) where
    -- the state that it names
    pub named : (b < states c) × (sent_to i ≡ b)
    named =
        let (s, e', h, to) = operand-names c tr.most i v q in
        let same : s ≡ b = cc in
        (rw same at h, to ∙ same)

    pub send-goes : {n n' : Now} → is_active n.image b ≡ true → Goes (run c (send c k) i.a levels b) n n'
        → Does (suc k) p i st i.op n (when is_active n'.image p then ran st else abandoned) n'
    send-goes {n} {n'} a w =
        subst (λ (o : Op). Does (suc k) p i st o n (when is_active n'.image p then ran st else abandoned) n') (sym q)
        (does-send (suc k) p i st named.1 (sent-goes k i.a b a w))

    pub unsend-goes : {n : Now} → is_active n.image p ≡ true → is_active n.image b ≡ false
        → Does k p i st i.op n (ran st) n
    unsend-goes {n} on a =
        subst (λ (o : Op). Does k p i st o n (ran st) n) (sym q)
        (rw (there p st n.image on) at (does-send k p i st named.1 (unsent-goes k i.a b {n = n} a)))
