-- What a block does to the image, and what it costs: a unit for each instruction, where none of them sends. Any I will do that
-- a variable's new value keeps; after a send there may be less, F, but then the owner is gone. Assumes nothing.
use mathlib.Core.Path.{◌≡◌, refl}
use mathlib.Core.Logic.{inl, inr}
use mathlib.Core.Bool.{Bool, true, false}
use mathlib.Core.List.Memᴰ
use mathlib.Core.List.{List, [], ◌∷◌, map}
use Prim.Native.Nat.{ℕ, ◌<◌}
use native.Mathlib.Omega.{arith}
use lib.Dec.{ltb}
use lib.ListN.{length}
use lib.IntN.{ℤ}
use borrow.Author.Tests.{ltb-true}
use Rattle.rules.specs.Lists.{when◌then◌else◌, up_from, every}
use Rattle.rules.specs.Chart as C
use Rattle.rules.specs.Chart.{State, Chart, Block, Op, Instruction, states, variables, instruction, code}
use Rattle.rules.specs.Accept.{op_rule, is_send, operands_right}
use Rattle.rules.specs.Image.{Image, is_active, set_variable}
use Rattle.rules.specs.Doing.{Doing, give}
use Rattle.rules.specs.Block.{Stack, Ran, ran, abandoned, unless_abandoned, top, binary, checked, divided, gone, Delivery, SendOp, no_send, send_from, sent_to, instruct, perform, action}
use Rattle.rules.proofs.Laws.{two, both, and_left, clash}
use Rattle.rules.proofs.Members.{Mem}
use Rattle.rules.proofs.Distinct.{up-length}
use Rattle.rules.proofs.Taken.{Tree, Valid, has_operands, sends-to-state}
use Rattle.rules.proofs.Soundness.{Sound, variable-active, variable-sound}
use Rattle.rules.proofs.Triple.{Claim, ◌⇒◌, Triple, t-post, t-more, t-give, t-refuse, t-if, t_same, t-bind, t-then, t-done, t-change, t-look, t-pay, t-note}
use Rattle.rules.proofs.Bounded.{Bounded}

-- how a block ends: it goes on, where I holds, or is abandoned, where F does
abbrev pub How : Claim → Claim → Ran → Claim
How I F (ran st) = I
How I F abandoned = F

-- after a send: the owner is gone, where F holds, or it is there
abbrev pub After : Claim → Claim → Bool → Claim
After I F true = F
After I F false = I

-- a send that costs nothing, since it is only met where no units are promised
abbrev pub Sends : {A : Type 0} → Chart → Claim → (ℕ → State → Doing A) → (A → Claim) → Type 0
Sends c I send_op Q = (Bounded c → ⊥) → (e : ℕ) (b : State) → b < states c → Triple (Bounded c) 0 I (send_op e b) Q

-- what follows a block, or an instruction
pub t-unless : {A B : Type 0} {b : ℕ} {I F : Claim} {Q : A → Claim} (r : Ran) (a : A) {f : Stack → Doing A} → F ⇒ Q a
    → ((st : Stack) → Triple B b I (f st) Q) → Triple B b (How I F r) (unless_abandoned r a f) Q
unfolding unless_abandoned
t-unless (ran st) a h tf = tf st
t-unless abandoned a h tf = t-give a h

module _ (c : Chart) (tr : Tree c) (I F : Claim) {send_op : SendOp}
    (set : (im : Image) (v : ℕ) (z : ℤ) → v < variables c → I im → I (set_variable im v z))
    (sends : Sends c I send_op (After I F)) where
  -- an instruction, or some, for b units
  abbrev Performs : ℕ → Doing Ran → Type 0
  Performs b m = Triple (Bounded c) b I m (How I F)

  t-binary : (f : ℤ → ℤ → ℤ) (st : Stack) → Performs 0 (binary f st)
  unfolding binary
  t-binary f st = t_same _

  t-checked : (f : ℤ → ℤ → ℤ) (st : Stack) → Performs 0 (checked f st)
  unfolding checked
  t-checked f st = t-if _ (λ e. t-binary f st) (λ e. t-refuse 17 (λ q. omega arith))

  t-divided : (st : Stack) {m : Doing Ran} → Performs 0 m → Performs 0 (divided st m)
  unfolding divided
  t-divided st tm = t-if _ (λ e. t-refuse 17 (λ q. omega arith)) (λ e. tm)

  pub t-instruct : (o : Op) (i : Instruction) (st : Stack) → operands_right c (op_rule o).operands i ≡ true
      → (Bounded c → is_send o ≡ false) → Performs 0 (instruct send_op o i st)
  unfolding instruct op_rule is_send operands_right when◌then◌else◌
  t-instruct C.push i st v q = t_same _
  t-instruct C.load i st v q = t-bind {b' = 0} t-look (λ a. t-give _ (λ im p. p.1))
  t-instruct C.store i st v q =
      t-then {b' = 0} {R = I}
      (t-change _ (λ im p. set im i.a (top st) (ltb-true _ _ (and_left (ltb i.a (variables c)) _ v)) p)) (t_same _)
  t-instruct C.add i st v q = t-checked _ st
  t-instruct C.subtract i st v q = t-checked _ st
  t-instruct C.multiply i st v q = t-checked _ st
  t-instruct C.quotient i st v q = t-divided st (t-checked _ st)
  t-instruct C.remainder i st v q = t-divided st (t-binary _ st)
  t-instruct C.less i st v q = t-binary _ st
  t-instruct C.equal i st v q = t-binary _ st
  t-instruct C.not i st v q = t_same _
  t-instruct C.raise i st v q = t-then {b' = 0} (t-note _ i.a) (t_same _)
  t-instruct C.send i st v q =
      t-bind {b' = 0} (sends (λ x. clash refl (q x)) i.a (sent_to i) (sends-to-state c tr.most i v))
      (λ g. elim g as (λ k. Triple {A = Ran} (Bounded c) 0 (After I F k) (give (when k then abandoned else ran st)) (How I F)) [ true ↦ t_same _ | false ↦ t_same _ ])
  t-instruct C.unknown i st v q = t_same _

  t-perform : (st : Stack) (xs : List ℕ) → every (has_operands c) (map (instruction c) xs) ≡ true
      → (Bounded c → (x : ℕ) → Mem x xs → is_send (instruction c x).op ≡ false)
      → Performs (length xs) (perform send_op st (map (instruction c) xs))
  unfolding perform every
  t-perform st [] v q = t_same _
  t-perform st (x ∷ xs) v q =
      let i = instruction c x in
      let (here, rest) = both (has_operands c i) _ v in
      t-more (λ b. omega arith)
      (t-then t-pay
      (t-bind (t-instruct i.op i st here (λ b. q b x (Memᴰ.head refl)))
      (λ r. t-unless r abandoned (λ im p. p) (λ st'. t-perform st' xs rest (λ b y m. q b y (Memᴰ.tail m))))))

  pub t_block : (k : Block) → Valid c k → Triple (Bounded c) k.count I (perform send_op [] (code c k)) (How I F)
  unfolding code
  t_block k v =
      rw up-length at
      (t-perform [] (up_from k.start k.count) v.operands (λ b i m. b.silent i (v.inside i m)))

-- a send by an owner: F, and all of I where the owner is still there
pub t-send_from : (c : Chart) (owner : State) {I F : Claim} → ((im : Image) → F im → is_active im owner ≡ true → I im)
    → {deliver : Delivery} → Sends c I deliver (λ _. F) → Sends c I (send_from owner deliver) (After I F)
unfolding send_from gone
t-send_from c owner back ss never e b h =
    t-then (ss never e b h)
    (t-bind {b' = 0} t-look (λ a. t-give _ (λ im (same, f). rw same
    (elim (two (is_active im owner)) [ inl on ↦ rw on (back im f on) | inr off ↦ rw off f ]))))

-- the image but for its variables and records
pub record Quiet (c : Chart) (im₀ im : Image) : Type 0 where
  pub sound : Sound c im
  pub same : (t : State) → t < 64 → is_active im t ≡ is_active im₀ t

-- a block that cannot send keeps all that says no more of the image than its bits and that it is sound
module _ (c : Chart) (tr : Tree c) {P : Claim} (so : (im : Image) → P im → Sound c im)
    (keeps : (im₀ im : Image) → P im₀ → Quiet c im₀ im → P im) where
  pub keeps-set : (im : Image) (v : ℕ) (z : ℤ) → v < variables c → P im → P (set_variable im v z)
  keeps-set im v z h p =
      keeps im (set_variable im v z) p
      (record { sound = variable-sound c tr im v z h (so im p); same = λ t l. variable-active c tr im v z t l })

  how-kept : (r : Ran) → How P P r ⇒ P
  how-kept (ran st) im p = p
  how-kept abandoned im p = p

  pub t-condition : (k : Block) → Valid c k → Triple (Bounded c) k.count P (perform no_send [] (code c k)) (λ _. P)
  unfolding no_send
  t-condition k v = t-post how-kept (t_block c tr P P keeps-set (λ never e b h. t_same false) k v)

  pub t-action : (k : Block) → Valid c k → Triple (Bounded c) k.count P (action c k) (λ _. P)
  unfolding action
  t-action k v = t-more (λ x. omega arith) (t-then {b' = 0} (t-condition k v) t-done)
