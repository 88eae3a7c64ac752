-- In a block whose stack use is right the stack is always as deep as the checker counts: no value is dropped, none is
-- missing. Each instruction leaves what is counted for it, so what follows is right from the stack left. Assumes nothing.
use mathlib.Core.Path.{◌≡◌}
use mathlib.Core.Bool.{Bool, true, false, ◌&&◌}
use mathlib.Core.List.{List, [], ◌∷◌, ◌++◌, append-nil}
use Prim.Native.Nat.{ℕ, ◌+◌, ◌-◌, ◌≤◌}
use native.Mathlib.Nat.{add-zero}
use native.Mathlib.Omega.{arith}
use lib.Dec.{leb}
use lib.ListN.{length, drop, length-drop}
use lib.IntN.{ℤ, ◌+ℤ◌, ◌-ℤ◌, ◌*ℤ◌}
use lib.Signed.{quot_z}
use borrow.Author.Tests.{leb-true, eqb-true, lt-ltb}
use Rattle.rules.specs.Lists.{when◌then◌else◌}
use Rattle.rules.specs.Chart.{Chart, stack_places, Block, Op, push, load, store, add, subtract, multiply, quotient, remainder, less, equal, not, raise, send, unknown, Instruction, code}
use Rattle.rules.specs.Accept.{op_rule, Place, ends_at, depth_after, stack_right, stack_use_right}
use Rattle.rules.specs.Doing.{Now, Outcome, refused, went, Doing, give, refuse, after, ◌>>=◌, ◌>>◌, look, change, pay, output_raised, note}
use Rattle.rules.specs.Block.{Stack, Ran, ran, abandoned, unless_abandoned, ◌onto◌, binary, checked, divided, SendOp, instruct, perform}
use Rattle.rules.proofs.Laws.{both}

-- what an outcome leaves

-- an outcome that goes on does so with such a stack
abbrev leaves : (Stack → Type 0) → Outcome Ran → Type 0
leaves Such (refused r) = Unit {0}
leaves Such (went (ran st) n) = Such st
leaves Such (went abandoned n) = Unit {0}

abbrev deep : ℕ → Stack → Type 0
deep d st = length st ≡ d

either : {A : Type 0} (P : A → Type 0) (t : Bool) (x y : A) → P x → P y → P (when t then x else y)
unfolding when◌then◌else◌
either P true x y p q = p
either P false x y p q = q

follows : {A : Type 0} (Such : Stack → Type 0) (o : Outcome A) (f : A → Doing Ran) → ((a : A) (n : Now) → leaves Such (f a n)) → leaves Such (after o f)
follows Such (refused r) f h = tt
follows Such (went a n) f h = h a n

-- what follows has the stack that was left
follows-stack : (Was Such : Stack → Type 0) (o : Outcome Ran) (f : Stack → Doing Ran) → leaves Was o → ((st : Stack) (n : Now) → Was st → leaves Such (f st n)) → leaves Such (after o (λ r. unless_abandoned r abandoned f))
unfolding unless_abandoned give
follows-stack Was Such (refused r) f l h = tt
follows-stack Was Such (went (ran st) n) f l h = h st n l
follows-stack Was Such (went abandoned n) f l h = tt

-- what an instruction leaves

-- k values are taken and none is given
takes-only : (k : ℕ) (st : Stack) → length (drop k st) ≡ length st - k + 0
takes-only k st = simp (length-drop, add-zero)

-- k values are taken and one is given: where there is room, it is not dropped
gives_one : (k : ℕ) (z : ℤ) (st : Stack) → leb (length st - k + 1) stack_places ≡ true → length (z onto drop k st) ≡ length st - k + 1
unfolding ◌onto◌ when◌then◌else◌
gives_one k z st room =
    let h : length st - k + 1 ≤ stack_places = leb-true _ _ room in
    rw (lt-ltb (length (drop k st)) stack_places (simp length-drop (omega arith))) (simp length-drop (omega arith))

checked-leaves : (f : ℤ → ℤ → ℤ) (st : Stack) (n : Now) → leb (length st - 2 + 1) stack_places ≡ true → leaves (deep (length st - 2 + 1)) (checked f st n)
unfolding checked binary give refuse
checked-leaves f st n room =
    either (λ (m : Doing Ran). leaves (deep (length st - 2 + 1)) (m n)) _ _ _ (gives_one 2 _ st room) tt

divided-leaves : (d : ℕ) (st : Stack) (m : Doing Ran) (n : Now) → leaves (deep d) (m n) → leaves (deep d) (divided st m n)
unfolding divided refuse
divided-leaves d st m n l = either (λ (m : Doing Ran). leaves (deep d) (m n)) _ _ _ tt l

-- the tests at an instruction: what it takes is there, there is room for what it gives, and what follows is right

step_right : (e d : ℕ) (i : Instruction) (is : List Instruction) → stack_right e d (i ∷ is) ≡ true → (leb (op_rule i.op).takes d ≡ true) × (leb (depth_after d i) stack_places ≡ true) × (stack_right e (depth_after d i) is ≡ true)
unfolding stack_right
step_right e d i is right =
    let enough = leb (op_rule i.op).takes d in
    let room = leb (depth_after d i) stack_places in
    let tests = both (enough && room) _ right in
    let here = both enough room tests.0 in
    (here.0, here.1, tests.1)

module _ (send_op : SendOp) where
  counted : (o : Op) (i : Instruction) (st : Stack) (n : Now) → leb (length st - (op_rule o).takes + (op_rule o).gives) stack_places ≡ true → leaves (deep (length st - (op_rule o).takes + (op_rule o).gives)) (instruct send_op o i st n)
  unfolding op_rule instruct give ◌>>=◌ ◌>>◌ look change binary
  counted push i st n room = gives_one 0 _ st room
  counted load i st n room = gives_one 0 _ st room
  counted store i st n room = takes-only 1 st
  counted add i st n room = checked-leaves ◌+ℤ◌ st n room
  counted subtract i st n room = checked-leaves ◌-ℤ◌ st n room
  counted multiply i st n room = checked-leaves ◌*ℤ◌ st n room
  counted quotient i st n room = divided-leaves _ st _ n (checked-leaves quot_z st n room)
  counted remainder i st n room = divided-leaves _ st _ n (gives_one 2 _ st room)
  counted less i st n room = gives_one 2 _ st room
  counted equal i st n room = gives_one 2 _ st room
  counted not i st n room = gives_one 1 _ st room
  counted raise i st n room = follows _ (note output_raised i.a n) _ (λ a m. takes-only 0 st)
  counted send i st n room =
      follows _ (send_op _ _ n) _
      (λ b m. either (λ r. leaves (deep (length st - 0 + 0)) (went r m)) b _ _ tt (takes-only 0 st))
  counted unknown i st n room = takes-only 0 st

  -- when the first of a right list are performed, the others are right from the stack left
  goes_on : (e : ℕ) (is js : List Instruction) (st : Stack) (n : Now) → stack_right e (length st) (is ++ js) ≡ true → leaves (λ s. stack_right e (length s) js ≡ true) (perform send_op st is n)
  unfolding perform pay give ◌>>=◌ ◌>>◌ depth_after
  goes_on e [] js st n right = right
  goes_on e (i ∷ is) js st n right =
      let tests = step_right e (length st) i (is ++ js) right in
      follows _ (pay n) _
      (λ a m. follows-stack (deep (depth_after (length st) i)) _ (instruct send_op i.op i st m) _ (counted i.op i st m tests.1)
      (λ s m' l. goes_on e is js s m' (rw l tests.2)))

  -- the theorems: of what goes on, neither refused nor abandoned

  -- an instruction with room for what it gives leaves the stack as deep as is counted: no value is dropped
  pub as-counted : (i : Instruction) (st st' : Stack) (n n' : Now) → leb (depth_after (length st) i) stack_places ≡ true → instruct send_op i.op i st n ≡ went (ran st') n' → length st' ≡ depth_after (length st) i
  unfolding depth_after
  as-counted i st st' n n' room w = rw w at (counted i.op i st n room)

  -- where a right list comes to its instruction i, no value that i takes is missing, and there is room for what it gives
  pub none-missing : (e : ℕ) (is js : List Instruction) (i : Instruction) (st st' : Stack) (n n' : Now) → stack_right e (length st) (is ++ (i ∷ js)) ≡ true → perform send_op st is n ≡ went (ran st') n' → (leb (op_rule i.op).takes (length st') ≡ true) × (leb (depth_after (length st') i) stack_places ≡ true)
  none-missing e is js i st st' n n' right w =
      let tests = step_right e (length st') i js (rw w at (goes_on e is (i ∷ js) st n right)) in
      (tests.0, tests.1)

  -- a right list ends with as many values as are counted
  pub ends-as-counted : (e : ℕ) (is : List Instruction) (st st' : Stack) (n n' : Now) → stack_right e (length st) is ≡ true → perform send_op st is n ≡ went (ran st') n' → length st' ≡ e
  unfolding stack_right
  ends-as-counted e is st st' n n' right w =
      eqb-true (length st') e (rw w at (goes_on e is [] st n (rw append-nil right)))

  -- so does a block: a condition with instructions with one value, every other block with none
  pub block-ends-as-counted : (c : Chart) (p : Place) (k : Block) (st' : Stack) (n n' : Now) → stack_use_right c p k ≡ true → perform send_op [] (code c k) n ≡ went (ran st') n' → length st' ≡ ends_at p k
  unfolding stack_use_right
  block-ends-as-counted c p k st' n n' right w = ends-as-counted (ends_at p k) (code c k) [] st' n n' right w
