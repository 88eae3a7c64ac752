-- Blocks are 002's actions, if their instructions are. So is an action that cannot send, an entry, exit or transition action, with
-- no send to open: its block has none, so each instruction is plain, and it comes to its end. Assumes nothing.
use mathlib.Core.Path.{◌≡◌, refl, sym}
use mathlib.Core.Bool.{Bool, true, false, not}
use mathlib.Core.List.Memᴰ
use mathlib.Core.List.{List, [], ◌∷◌}
use Prim.Native.Nat.{ℕ}
use Rattle.rules.specs.Lists.{every}
use Rattle.rules.specs.Chart.{State, Segment, Chart, Block, Instruction, transition_action, code}
use Rattle.rules.specs.Accept.{is_send}
use Rattle.rules.specs.Image.{Image}
use Rattle.rules.specs.Doing.{Now, pay, transition_performed, note, each}
use Rattle.rules.specs.Block.{Stack, Ran, ran, abandoned, unless_abandoned, SendOp, no_send, instruct, perform, action}
use Rattle.rules.specs.Fire.{transit}
use Rattle.rules.proofs.Laws.{both}
use Rattle.rules.proofs.Taken.{Tree, Right, Valid, Silent, tree, transition_action-valid, transition-silent}
use Rattle.rules.proofs.Soundness.{Sound, variable-sound}
use Rattle.rules.proofs.Triple.{Claim, t_same}
use Rattle.rules.proofs.Blocks.{How, t_block, t-action}
use Rattle.rules.proofs.Firing.{Path}
use Rattle.semantics.specs.Relation as R
use Rattle.semantics.specs.Relation.{⇝a, ⇝at, ◌⊢◌, Gives, Goes}
use Rattle.semantics.proofs.Inverting.{kept, paid, noted, then-inv, bind_inv, then-goes, bind_goes, give-inv, give-goes, done-inv, done-goes, none-inv, more-inv, more-goes}

not-send : (b : Bool) → not b ≡ true → b ≡ false
not-send true e = sym e
not-send false e = refl

-- the first instruction is no send, and the rest are none
pub silent-here : (i : Instruction) (is : List Instruction) → Silent (i ∷ is) → (is_send i.op ≡ false) × Silent is
unfolding every
silent-here i is s = let (here, rest) = both (not (is_send i.op)) _ s in (not-send (is_send i.op) here, rest)

-- A block, by what holds of its instructions: each is 002's action where I holds of the image, and keeps I unless it abandons.
module _ (c : Chart) (k : ℕ) (p : State) (send_op : SendOp) (right : Instruction → Bool) (I : Claim)
    (each-sound : (i : Instruction) (st : Stack) (n n' : Now) (r : Ran) → right i ≡ true → I n.image
    → Gives (instruct send_op i.op i st) n r n' → (c ⊢ R.⇝i k p st i n n' r) × ((st' : Stack) → r ≡ ran st' → I n'.image)) where
  pub block-sound : (st : Stack) (is : List Instruction) (n n' : Now) (r : Ran) → every right is ≡ true → I n.image
      → Gives (perform send_op st is) n r n' → c ⊢ ⇝a k p st is n n' r
  unfolding perform every unless_abandoned
  block-sound st [] n n' r v g w = let (x, y) = give-inv w in rw (← x, y) R.Skip
  block-sound st (i ∷ is) n n' r v g w =
      let (v₁, v₂) = both (right i) _ v in
      let b₁ = then-inv _ _ w in
      let b₂ = bind_inv _ _ b₁.behind in
      let (x, keeps) = each-sound i st b₁.mid b₂.mid b₂.gave v₁ (paid I b₁.before g) b₂.before in
      go b₂.gave b₁.before x keeps b₂.behind (λ st' m u z. block-sound st' is m n' r v₂ u z)
    where
      go : (q : Ran) {n₁ n₂ : Now} → Goes pay n n₁ → c ⊢ R.⇝i k p st i n₁ n₂ q → ((st' : Stack) → q ≡ ran st' → I n₂.image)
          → Gives (unless_abandoned q abandoned (λ st'. perform send_op st' is)) n₂ r n'
          → ((st' : Stack) (m : Now) → I m.image → Gives (perform send_op st' is) m r n' → c ⊢ ⇝a k p st' is m n' r)
          → c ⊢ ⇝a k p st (i ∷ is) n n' r
      go (ran st') pd x keeps z f = R.SeqT pd x (f st' _ (keeps st' refl) z)
      go abandoned pd x keeps z f = let (y, e) = give-inv z in rw (← y, ← e) (R.SeqF pd x)

-- and back, for whatever a send does
module _ (send_op : SendOp) where
  pub skip-goes : (st : Stack) {n : Now} → Gives (perform send_op st []) n (ran st) n
  unfolding perform
  skip-goes st = give-goes

  module _ (i : Instruction) (is : List Instruction) (st : Stack) {n n₁ n₂ : Now} (pd : Goes pay n n₁) where
    pub seq-goes : {st₁ : Stack} {n₃ : Now} {r : Ran} → Gives (instruct send_op i.op i st) n₁ (ran st₁) n₂
        → Gives (perform send_op st₁ is) n₂ r n₃ → Gives (perform send_op st (i ∷ is)) n r n₃
    unfolding perform unless_abandoned
    seq-goes x y = then-goes pd (bind_goes _ x y)

    pub seq-abandoned-goes : Gives (instruct send_op i.op i st) n₁ abandoned n₂ → Gives (perform send_op st (i ∷ is)) n abandoned n₂
    unfolding perform unless_abandoned
    seq-abandoned-goes x = then-goes pd (bind_goes _ x give-goes)

module _ (c : Chart) (rt : Right c) where
  tr : Tree c
  tr = tree c rt

  silent-sound : (p : State) (st : Stack) (is : List Instruction) (n n' : Now) (r : Ran) → Silent is
      → Gives (perform no_send st is) n r n' → c ⊢ ⇝a 0 p st is n n' r
  silent-sound p st is n n' r s w =
      block-sound c 0 p no_send (λ i. not (is_send i.op)) (λ im. Unit {0})
      (λ i st n n' r ne g x. (R.Plain (not-send (is_send i.op) ne) x, λ st' e. tt)) st is n n' r s tt w

  -- one that comes to its end, since nothing abandons it
  pub action-sound : (p : State) (k : Block) → Valid c k → Silent (code c k) → {n n' : Now} → Sound c n.image
      → Goes (action c k) n n' → (st : Stack) × (c ⊢ ⇝a 0 p [] (code c k) n n' (ran st))
  unfolding action no_send
  action-sound p k v s {n} {n'} so w =
      let b = then-inv _ _ w in
      let e = done-inv b.behind in
      let x = silent-sound p [] (code c k) n b.mid b.gave s b.before in
      let ends = t_block c tr (Sound c) (λ _. ⊥) (variable-sound c tr) (λ never e b h. t_same false) k v in
      go b.gave b.mid.image (rw e at x) (kept ends b.before so)
    where
      go : (r : Ran) (im : Image) → c ⊢ ⇝a 0 p [] (code c k) n n' r → How (Sound c) (λ _. ⊥) r im
          → (st : Stack) × (c ⊢ ⇝a 0 p [] (code c k) n n' (ran st))
      go (ran st) im x h = (st, x)
      go abandoned im x h = absurd h

  pub action-kept : (k : Block) → Valid c k → {n n' : Now} → Goes (action c k) n n' → Sound c n.image → Sound c n'.image
  action-kept k v w so = kept (t-action c tr {P = Sound c} (λ im q. q) (λ im₀ im q x. x.sound) k v) w so

  -- the transition actions of a path
  pub transits-sound : (p : State) (path : List Segment) → Path c path → {n n' : Now} → Sound c n.image
      → Goes (each (transit c) path) n n' → c ⊢ ⇝at p path n n'
  unfolding transit
  transits-sound p [] real so w = rw (none-inv _ w) R.SkipP
  transits-sound p (t ∷ path) real so w =
      let b = more-inv _ t path w in
      let b₁ = then-inv _ _ b.before in
      let h = real t (Memᴰ.head refl) in
      let v = transition_action-valid c rt t h in
      let so₁ = noted (Sound c) transition_performed t b₁.before so in
      let (st, x) = action-sound p (transition_action c t) v (transition-silent c rt t h) so₁ b₁.behind in
      R.SeqP b₁.before x (transits-sound p path (λ u i. real u (Memᴰ.tail i))
      (action-kept (transition_action c t) v b₁.behind so₁) b.behind)

  pub transits-kept : (path : List Segment) → Path c path → {n n' : Now} → Goes (each (transit c) path) n n' → Sound c n.image
      → Sound c n'.image
  unfolding transit
  transits-kept [] real w so = rw (← none-inv _ w) so
  transits-kept (t ∷ path) real w so =
      let b = more-inv _ t path w in
      let b₁ = then-inv _ _ b.before in
      let so₁ = noted (Sound c) transition_performed t b₁.before so in
      let v = transition_action-valid c rt t (real t (Memᴰ.head refl)) in
      let so₂ = action-kept (transition_action c t) v b₁.behind so₁ in
      transits-kept path (λ u i. real u (Memᴰ.tail i)) b.behind so₂

  -- and back
  pub action-goes : (k : Block) {st : Stack} {n n' : Now} → Gives (perform no_send [] (code c k)) n (ran st) n'
      → Goes (action c k) n n'
  unfolding action
  action-goes k w = then-goes w done-goes

  pub transit-goes : (t : Segment) (path : List Segment) {n n₁ n₂ n₃ : Now} → Goes (note transition_performed t) n n₁
      → Goes (action c (transition_action c t)) n₁ n₂ → Goes (each (transit c) path) n₂ n₃
      → Goes (each (transit c) (t ∷ path)) n n₃
  unfolding transit
  transit-goes t path i a w = more-goes _ t path (then-goes i a) w
