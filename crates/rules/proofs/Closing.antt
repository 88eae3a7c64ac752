-- Properties of doings that are closed under the ways doings are made: what a doing made at once has, and what stays when
-- doings are joined, each definition of the rules up to a step has by its shape. Assumes nothing.
use mathlib.Core.Path.{◌≡◌, refl, subst, fun_ext}
use mathlib.Core.Bool.{Bool, true, false}
use mathlib.Core.List.{List, [], ◌∷◌}
use Prim.Native.Nat.{ℕ, zero, suc, ◌≤◌}
use native.Mathlib.Omega.{arith}
use lib.IntN.{ℤ, pos}
use Rattle.rules.specs.Lists.{when◌then◌else◌}
use Rattle.rules.specs.Chart as C
use Rattle.rules.specs.Chart.{State, Segment, Chart, Block, Op, Instruction}
use Rattle.rules.specs.Image.{Image, is_active, not_started}
use Rattle.rules.specs.Doing as D
use Rattle.rules.specs.Doing.{Now, Doing, Done, give, done, refuse, look, change, pay, Act, note, each, when_active}
use Rattle.rules.specs.Block.{Stack, Ran, ran, abandoned, unless_abandoned, binary, checked, divided, Delivery, SendOp, no_send, send_from, instruct, perform, action, value}
use Rattle.rules.specs.Search.{Found, reached, nowhere, ended, run_abandoned, or_next, holds, passes, tries, passed, search}
use Rattle.rules.specs.Fire.{levels, leave_each, parent_records, leave, enter_each, enter, transit, fire}
use Rattle.rules.specs.Run.{follow, run_active, run_children, run_inside, run_during, run, send, start, step}

-- the rules refuse by 17, 18 and 19, besides the 16 of a pay and the 20 of a note
pub record Closed (Φ : (A : Type 0) → Doing A → Type 0) : Type 1 where
  pub gives : {A : Type 0} (a : A) → Φ _ (give a)
  pub refuses : {A : Type 0} (k : ℕ) → 17 ≤ k → k ≤ 19 → Φ _ (refuse {A = A} k)
  pub looks : Φ _ look
  pub changes : (f : Image → Image) → Φ _ (change f)
  pub pays : Φ _ pay
  pub notes : (act : Act) (k : ℕ) → Φ _ (note act k)
  pub binds : {A B : Type 0} {m : Doing A} {f : A → Doing B} → Φ _ m → ((a : A) → Φ _ (f a)) → Φ _ (D.◌>>=◌ m f)

-- to choose a doing and do it, or to do the one or the other
either : {A : Type 0} (m k : Doing A) (n : Now) (t : Bool) → (when t then m else k) n ≡ (when t then m n else k n)
unfolding when◌then◌else◌
either m k n true = refl
either m k n false = refl

module _ {Φ : (A : Type 0) → Doing A → Type 0} (law : Closed Φ) where
  open law use {gives, refuses, looks, changes, pays, notes, binds as ◌>>=◌}

  -- the ways to join doings

  infixl 10 ◌>>=◌
  infixl 10 ◌>>◌
  pub ◌>>◌ : {A B : Type 0} {m : Doing A} {k : Doing B} → Φ _ m → Φ _ k → Φ _ (D.◌>>◌ m k)
  unfolding D.◌>>=◌ D.◌>>◌
  hm >> hk = hm >>= (λ _. hk)

  done-has : Φ _ done
  unfolding done
  done-has = gives tt

  module _ {A : Type 0} where
    pub if-has : {m k : Doing A} (t : Bool) → Φ _ m → Φ _ k → Φ _ (when t then m else k)
    unfolding when◌then◌else◌
    if-has true hm hk = hm
    if-has false hm hk = hk

    -- the test is of the image as it is now
    choice-has : {m k : Doing A} (t : Image → Bool) → Φ _ m → Φ _ k → Φ _ (λ n. when t n.image then m n else k n)
    unfolding D.◌>>=◌ look
    choice-has {m} {k} t hm hk =
        subst (Φ _) (fun_ext (λ n. either m k n (t n.image))) (looks >>= (λ im. if-has (t im) hm hk))

    unless-has : (r : Ran) (a : A) {f : Stack → Doing A} → ((st : Stack) → Φ _ (f st)) → Φ _ (unless_abandoned r a f)
    unfolding unless_abandoned
    unless-has (ran st) a hf = hf st
    unless-has abandoned a hf = gives a

  each-has : {f : ℕ → Done} → ((x : ℕ) → Φ _ (f x)) → (xs : List ℕ) → Φ _ (each f xs)
  unfolding each
  each-has hf [] = done-has
  each-has hf (x ∷ xs) = hf x >> each-has hf xs

  active-has : (s : State) {m : Done} → Φ _ m → Φ _ (when_active s m)
  unfolding when_active
  active-has s hm = choice-has (λ im. is_active im s) hm done-has

  next-has : (o : Found) {m : Doing Found} → Φ _ m → Φ _ (or_next o m)
  unfolding or_next
  next-has (reached s path) hm = gives _
  next-has nowhere hm = hm
  next-has ended hm = gives _
  next-has run_abandoned hm = gives _

  -- a block

  binary-has : (f : ℤ → ℤ → ℤ) (st : Stack) → Φ _ (binary f st)
  unfolding binary
  binary-has f st = gives _

  checked-has : (f : ℤ → ℤ → ℤ) (st : Stack) → Φ _ (checked f st)
  unfolding checked
  checked-has f st = if-has _ (binary-has f st) (refuses 17 (omega arith) (omega arith))

  divided-has : (st : Stack) {m : Doing Ran} → Φ _ m → Φ _ (divided st m)
  unfolding divided
  divided-has st hm = if-has _ (refuses 17 (omega arith) (omega arith)) hm

  pub no_send-has : (e : ℕ) (b : State) → Φ _ (no_send e b)
  unfolding no_send
  no_send-has e b = gives false

  module _ {deliver : Delivery} (hs : (e : ℕ) (b : State) → Φ _ (deliver e b)) where
    pub send_from-has : (owner : State) (e : ℕ) (b : State) → Φ _ (send_from owner deliver e b)
    unfolding send_from
    send_from-has owner e b = hs e b >> (looks >>= (λ im. gives _))

  module _ {send_op : SendOp} (hs : (e : ℕ) (b : State) → Φ _ (send_op e b)) where
    pub instruct-has : (o : Op) (i : Instruction) (st : Stack) → Φ _ (instruct send_op o i st)
    unfolding instruct
    instruct-has C.push i st = gives _
    instruct-has C.load i st = looks >>= (λ im. gives _)
    instruct-has C.store i st = changes _ >> gives _
    instruct-has C.add i st = checked-has _ st
    instruct-has C.subtract i st = checked-has _ st
    instruct-has C.multiply i st = checked-has _ st
    instruct-has C.quotient i st = divided-has st (checked-has _ st)
    instruct-has C.remainder i st = divided-has st (binary-has _ st)
    instruct-has C.less i st = binary-has _ st
    instruct-has C.equal i st = binary-has _ st
    instruct-has C.not i st = gives _
    instruct-has C.raise i st = notes _ i.a >> gives _
    instruct-has C.send i st = hs i.a _ >>= (λ b. gives _)
    instruct-has C.unknown i st = gives _

    pub perform-has : (st : Stack) (is : List Instruction) → Φ _ (perform send_op st is)
    unfolding perform
    perform-has st [] = gives _
    perform-has st (i ∷ is) = do
      pays
      r ← instruct-has i.op i st
      unless-has r abandoned (λ st'. perform-has st' is)

  action-has : (c : Chart) (k : Block) → Φ _ (action c k)
  unfolding action
  action-has c k = perform-has no_send-has [] _ >> done-has

  value-has : (c : Chart) (k : Block) → Φ _ (value c k)
  unfolding value
  value-has c k = do
    r ← perform-has no_send-has [] _
    unless-has r (pos 0) (λ st. gives _)

  module _ (c : Chart) where
    -- the search

    holds_has : (t : Segment) → Φ _ (holds c t)
    unfolding holds
    holds_has t = if-has _ (gives true) (value-has c _ >>= (λ z. gives _))

    pub passes-has : (e : ℕ) (t : Segment) → Φ _ (passes c e t)
    unfolding passes
    passes-has e t = if-has _ (holds_has t) (gives false)

    module _ {deliver : Delivery} (hs : (e : ℕ) (b : State) → Φ _ (deliver e b)) (e : ℕ) (source : State) where
      tries-has : {f : Segment → Doing Found} → ((t : Segment) → Φ _ (f t))
          → (ts : List Segment) → Φ _ (tries c deliver e source f ts)
      unfolding tries
      tries-has hf [] = gives nowhere
      tries-has hf (t ∷ ts) = do
        pays
        b ← passes-has e t
        o ← if-has b (hf t) (gives nowhere)
        next-has o (tries-has hf ts)

      passed-has : (n : ℕ) (path : List Segment) (t : Segment) → Φ _ (passed c deliver e source n path t)
      unfolding passed
      passed-has zero path t = refuses 19 (omega arith) (omega arith)
      passed-has (suc n) path t = do
        notes _ t
        r ← perform-has (send_from-has hs source) [] _
        unless-has r run_abandoned (λ _.
            if-has _ (gives _) (if-has _ (gives ended) (tries-has (passed-has n _) _)))

      pub search-has : (ts : List Segment) → Φ _ (search c deliver e source ts)
      unfolding search
      search-has ts = tries-has (passed-has 128 []) ts

    -- leaving, entering and firing

    leave_each-has : {f : State → Done} → ((s : State) → Φ _ (f s)) → (s : State) → Φ _ (leave_each c f s)
    unfolding leave_each
    leave_each-has hf s = each-has (λ k. active-has k (hf k)) _

    parent_records-has : (s : State) → Φ _ (parent_records c s)
    unfolding parent_records
    parent_records-has s = if-has _ (changes _) done-has

    leave-has : (d : ℕ) (s : State) → Φ _ (leave c d s)
    unfolding leave
    leave-has zero s = done-has
    leave-has (suc d) s = do
      pays
      leave_each-has (λ k. leave-has d k) s
      action-has c _
      parent_records-has s
      changes _
      notes _ s

    enter_each-has : {f : State → Done} → ((s : State) → Φ _ (f s)) → (target s : State) → Φ _ (enter_each c f target s)
    unfolding enter_each
    enter_each-has hf target s = looks >>= (λ im. each-has hf _)

    enter-has : (d : ℕ) (target s : State) → Φ _ (enter c d target s)
    unfolding enter
    enter-has zero target s = done-has
    enter-has (suc d) target s = do
      pays
      changes _
      notes _ s
      action-has c _
      enter_each-has (λ k. enter-has d target k) target s

    transit-has : (t : Segment) → Φ _ (transit c t)
    unfolding transit
    transit-has t = notes _ t >> action-has c _

    pub fire-has : (source target : State) (path : List Segment) → Φ _ (fire c source target path)
    unfolding fire
    fire-has source target path = do
      leave_each-has (leave-has levels) _
      each-has transit-has path
      enter_each-has (enter-has levels target) target _

    -- a run, a send and a step

    follow-has : (p : State) (o : Found) {rest : Done} → Φ _ rest → Φ _ (follow c p o rest)
    unfolding follow
    follow-has p (reached s path) hr = fire-has p s path
    follow-has p nowhere hr = hr
    follow-has p ended hr = hr
    follow-has p run_abandoned hr = done-has

    run_active-has : {f : State → Done} → ((s : State) → Φ _ (f s)) → (p : State) → Φ _ (run_active c f p)
    unfolding run_active
    run_active-has hf p = looks >>= (λ im. if-has _ done-has (hf _))

    run_children-has : {f : State → Done} → ((s : State) → Φ _ (f s)) → (p : State) → Φ _ (run_children c f p)
    unfolding run_children
    run_children-has hf p = if-has _ (run_active-has hf p) (each-has (λ s. active-has s (hf s)) _)

    module _ {deliver : Delivery} (hs : (e : ℕ) (b : State) → Φ _ (deliver e b)) (e : ℕ) where
      run_inside-has : {f : State → Done} → ((s : State) → Φ _ (f s)) → (p : State) → Φ _ (run_inside c deliver e f p)
      unfolding run_inside
      run_inside-has hf p = search-has hs e p _ >>= (λ o. follow-has p o (run_children-has hf p))

      run_during-has : {f : State → Done} → ((s : State) → Φ _ (f s)) → (p : State) → Φ _ (run_during c deliver e f p)
      unfolding run_during
      run_during-has hf p = do
        notes _ p
        r ← perform-has (send_from-has hs p) [] _
        unless-has r tt (λ _. run_inside-has hf p)

      run-has : (d : ℕ) (p : State) → Φ _ (run c deliver e d p)
      unfolding run
      run-has zero p = done-has
      run-has (suc d) p = do
        pays
        o ← search-has hs e p _
        follow-has p o (run_during-has (λ s. run-has d s) p)

    pub send-has : (n e : ℕ) (b : State) → Φ _ (send c n e b)
    unfolding send
    send-has zero e b = active-has b (refuses 18 (omega arith) (omega arith))
    send-has (suc n) e b = active-has b (run-has (λ e' b'. send-has n e' b') e levels b)

    start_has : Φ _ (start c)
    unfolding start
    start_has = enter-has levels 0 0

    pub step-has : (e : ℕ) → Φ _ (step c e)
    unfolding step
    step-has e = choice-has not_started start_has (run-has (send-has 8) e levels 0)
