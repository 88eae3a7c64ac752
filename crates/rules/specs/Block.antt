-- A block of instructions is performed. Assumes nothing.
use Rattle.std.specs.Prelude.{Bool, false, List, [], ◌∷◌, ℕ, ◌%◌, ltb, length, get_or, drop, ℤ, pos, ◌+ℤ◌, ◌-ℤ◌, ◌*ℤ◌}
use Rattle.std.proofs.Math.Bool as B
use Rattle.std.specs.Int.Signed.{lt_z, quot_z, rem_z}
use Rattle.rules.specs.Bytes.{fits, equals, is_zero, truth, unsigned}
use Rattle.rules.specs.Lists.{when◌then◌else◌}
use Rattle.rules.specs.Chart.{State, Chart, stack_places, Block, Op, push, load, store, add, subtract, multiply, quotient, remainder, less, equal, not, raise, send, unknown, Instruction, code}
use Rattle.rules.specs.Image.{Image, is_active, variable, set_variable}
use Rattle.rules.specs.Doing.{Doing, Done, give, done, refuse, ◌>>=◌, ◌>>◌, look, change, pay, output_raised, note}

abbrev pub Stack : Type 0
Stack = List ℤ

-- a block comes to its end, with this stack; or the rest of it and of the owner's run is abandoned
pub data Ran : Type 0 where
  ran : Stack → Ran
  abandoned : Ran

-- what follows a block or an instruction: a where it was abandoned, else f
unfoldable pub unless_abandoned : {A : Type 0} → Ran → A → (Stack → Doing A) → Doing A
unless_abandoned (ran st) a f = f st
unless_abandoned abandoned a f = give a

unfoldable pub top : Stack → ℤ
top st = get_or st 0 (pos 0)

unfoldable pub lower : Stack → ℤ
lower st = get_or st 1 (pos 0)

-- a value goes onto the stack; where all places are taken, as in no block of an accepted chart, it is dropped
infixr 5 ◌onto◌
unfoldable pub ◌onto◌ : ℤ → Stack → Stack
z onto st = when ltb (length st) stack_places then z ∷ st else st

-- a binary op takes lower, then top
unfoldable pub binary : (ℤ → ℤ → ℤ) → Stack → Doing Ran
binary f st = give (ran (f (lower st) (top st) onto drop 2 st))

-- the same, or 17 where the result does not fit
unfoldable pub checked : (ℤ → ℤ → ℤ) → Stack → Doing Ran
checked f st = when fits (f (lower st) (top st)) then binary f st else refuse 17

-- 17 where the divisor is 0
unfoldable pub divided : Stack → Doing Ran → Doing Ran
divided st m = when is_zero (top st) then refuse 17 else m

unfoldable pub gone : State → Image → Bool
gone owner im = B.not (is_active im owner)

-- how an event comes to a state, which is run with it
abbrev pub Delivery : Type 0
Delivery = ℕ → State → Done

-- what a block's op send does with an event and a state; and whether the rest is abandoned then
abbrev pub SendOp : Type 0
SendOp = ℕ → State → Doing Bool

-- where a send is barred
unfoldable pub no_send : SendOp
no_send e b = give false

-- the event is delivered; if afterwards the owner is gone, the rest is abandoned
unfoldable pub send_from : State → Delivery → SendOp
send_from owner deliver e b = deliver e b >> (look >>= (λ im. give (gone owner im)))

-- the state that a send names is b, of which one byte is read: in an accepted chart b is below 64
abbrev pub sent_to : Instruction → State
sent_to i = unsigned 2 i.b % 256

module _ (send_op : SendOp) where
  unfoldable pub instruct : Op → Instruction → Stack → Doing Ran
  instruct push i st = give (ran (i.b onto st))
  instruct load i st = look >>= (λ im. give (ran (variable im i.a onto st)))
  instruct store i st = change (λ im. set_variable im i.a (top st)) >> give (ran (drop 1 st))
  instruct add i st = checked ◌+ℤ◌ st
  instruct subtract i st = checked ◌-ℤ◌ st
  instruct multiply i st = checked ◌*ℤ◌ st
  instruct quotient i st = divided st (checked quot_z st)
  instruct remainder i st = divided st (binary rem_z st)
  instruct less i st = binary (λ x y. truth (lt_z x y)) st
  instruct equal i st = binary (λ x y. truth (equals x y)) st
  instruct not i st = give (ran (truth (is_zero (top st)) onto drop 1 st))
  instruct raise i st = note output_raised i.a >> give (ran st)
  instruct send i st = send_op i.a (sent_to i) >>= (λ b. give (when b then abandoned else ran st))
  instruct unknown i st = give (ran st)

  unfoldable pub perform : Stack → List Instruction → Doing Ran
  perform st [] = give (ran st)
  perform st (i ∷ is) = do
    pay
    r ← instruct i.op i st
    unless_abandoned r abandoned (λ st'. perform st' is)

-- a block that cannot send: an action; and a condition, whose value ends on top (it is never abandoned)
unfoldable pub action : Chart → Block → Done
action c k = perform no_send [] (code c k) >> done

unfoldable pub value : Chart → Block → Doing ℤ
value c k = perform no_send [] (code c k) >>= (λ r. unless_abandoned r (pos 0) (λ st. give (top st)))
