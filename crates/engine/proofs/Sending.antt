-- A send, a block that can send, a segment that passes: one law for each way through the code, and for a block what is still
-- to perform from an instruction on. Assumes nothing.
use mathlib.Core.Path.{◌≡◌, refl, sym, ◌∙◌}
use mathlib.Core.Bool.{Bool, true, false, false≢true}
use mathlib.Core.List.{List, [], ◌∷◌}
use Prim.Native.Nat.{ℕ, zero, suc, ◌+◌, ◌-◌, ◌*◌, ◌≤◌, ◌<◌}
use native.Mathlib.Omega.{arith}
use lib.ListN.{take, drop}
use Rattle.std.specs.Prelude.{Result, Ok, Err}
use Rattle.std.specs.Result.{IsErrAnd}
use Rattle.rules.specs.Bytes.{Bytes}
use Rattle.rules.specs.Lists.{when◌then◌else◌}
use Rattle.rules.specs.Chart.{Chart, State, Segment, Op, Instruction, instruction_at}
use Rattle.rules.specs.Chart as op
use Rattle.rules.specs.Image.{is_active}
use Rattle.rules.specs.Accept.{op_rule, is_send}
use Rattle.rules.specs.Doing.{because, Now, Outcome, refused, went, Doing, give, done, refuse, after, ◌>>=◌, ◌>>◌, pay, when_active}
use Rattle.rules.specs.Block.{Stack, Ran, ran, abandoned, unless_abandoned, SendOp, no_send, send_from, sent_to, instruct, perform}
use Rattle.rules.specs.Fire.{levels}
use Rattle.rules.specs.Run.{run, send}
use Rattle.rules.specs.declared.refusals.Refusal.{Refusal}
use Rattle.chart.specs.Read.{block_of, instruction_from}
use Rattle.chart.specs.declared.blocks.Block.{Block as CodeBlock}
use Rattle.doing.specs.Outcomes.{outcome_of}
use Rattle.doing.proofs.Sequels.{refused-ends}
use Rattle.blocks.specs.Performed.{ran_of}
use Rattle.blocks.specs.Code.{code_in, instructed, paid_for}
use Rattle.engine.specs.Told.{is_abandoned, paid_send, acted, passing, passing_within}
use Rattle.engine.specs.declared.cycle.Tried.TheVariants.{Passed, Abandoned}
use Rattle.blocks.proofs.Performing.{code-end, code_step, part-code, no_code}
use Rattle.engine.proofs.Joining.{after-after}
use Rattle.engine.proofs.Telling.{unless_over, over-ends, not-over, ran-refused, ran-next}
use Rattle.moves.proofs.Follows.{less_one}
use Rattle.engine.proofs.Units.{kept, paid_for-spends, paid_send-falls}

-- a send: to a state that is not active, with no send left to open, and with one
module _ (c : Chart) (e b : ℕ) (now : Now) where
  pub send-idle : (n : ℕ) → is_active now.image b ≡ false → went tt now ≡ send c n e b now
  unfolding send when_active when◌then◌else◌ done give
  send-idle zero q = rw q
  send-idle (suc n) q = rw q

  pub send-barred : (n : ℕ) → is_active now.image b ≡ true → n ≡ 0 → refused (because 18) ≡ send c n e b now
  unfolding send when_active when◌then◌else◌ refuse
  send-barred n q z = rw (z, q)

  pub send-runs : (n : ℕ) → is_active now.image b ≡ true → (n ≡ 0 → ⊥) → run c (send c (n - 1)) e levels b now ≡ send c n e b now
  unfolding send when_active when◌then◌else◌
  send-runs zero q h = absurd (h refl)
  send-runs (suc n) q h = rw (q, less_one n)

-- an instruction that is no send is performed alike where sends are barred
plain : (send_op : SendOp) (o : Op) (i : Instruction) (st : Stack) → is_send o ≡ false → instruct send_op o i st ≡ instruct no_send o i st
unfolding instruct is_send op_rule
plain send_op op.push i st q = refl
plain send_op op.load i st q = refl
plain send_op op.store i st q = refl
plain send_op op.add i st q = refl
plain send_op op.subtract i st q = refl
plain send_op op.multiply i st q = refl
plain send_op op.quotient i st q = refl
plain send_op op.remainder i st q = refl
plain send_op op.less i st q = refl
plain send_op op.equal i st q = refl
plain send_op op.not i st q = refl
plain send_op op.raise i st q = refl
plain send_op op.send i st q = absurd (false≢true (sym q))
plain send_op op.unknown i st q = refl

sends-only : (o : Op) → is_send o ≡ true → o ≡ op.send
unfolding is_send op_rule
sends-only op.push q = cc
sends-only op.load q = cc
sends-only op.store q = cc
sends-only op.add q = cc
sends-only op.subtract q = cc
sends-only op.multiply q = cc
sends-only op.quotient q = cc
sends-only op.remainder q = cc
sends-only op.less q = cc
sends-only op.equal q = cc
sends-only op.not q = cc
sends-only op.raise q = cc
sends-only op.send q = refl
sends-only op.unknown q = cc

-- the first instruction, and then the rest: one that is no send, and a send, which can end the block
abbrev onward : (Stack → Doing Ran) → Ran → Doing Ran
onward f r = unless_abandoned r abandoned f

abbrev answer : Ran → Doing Bool
answer r = give (is_abandoned r)

module _ (st : Stack) (f : Stack → Doing Ran) where
  abbrev send_ends : Bool → Doing Ran
  send_ends b = give (when b then abandoned else ran st)

  after-told : (o : Outcome Bool) → after (after (after o send_ends) (onward f)) answer ≡ after o (unless_over (f st >>= answer))
  unfolding give when◌then◌else◌ unless_abandoned is_abandoned ◌>>=◌
  after-told (refused r) = refl
  after-told (went true n) = refl
  after-told (went false n) = refl

  after-paid : (s : Doing Bool) (o : Outcome (Unit {0}))
      → after (after o (λ _. (s >>= send_ends) >>= onward f)) answer ≡ after (after o (λ _. s)) (unless_over (f st >>= answer))
  unfolding ◌>>=◌
  after-paid s (refused r) = refl
  after-paid s (went a n) = after-told (s n)

module _ (send_op : SendOp) (i : Instruction) (rest : List Instruction) (st : Stack) (n : Now) where
  plain_then : is_send i.op ≡ false
      → perform send_op st (i ∷ rest) n ≡ after (paid_for i st n) (onward (λ st'. perform send_op st' rest))
  unfolding paid_for instructed perform ◌>>◌ ◌>>=◌
  plain_then q = rw (plain send_op i.op i st q) (sym (after-after (pay n) (λ _. instruct no_send i.op i st) _))

  abbrev its_send : Doing Bool
  its_send = send_op i.a (sent_to i)

  send-then : is_send i.op ≡ true
      → after (perform send_op st (i ∷ rest) n) answer ≡ after ((pay >> its_send) n) (unless_over (perform send_op st rest >>= answer))
  unfolding perform instruct ◌>>◌
  send-then q = rw (sends-only i.op q) (after-paid st (λ st'. perform send_op st' rest) its_send (pay n))

-- what a block has still to perform: the instructions from k on; whether the rest of the owner's run is abandoned then
unfoldable pub to_act : SendOp → Bytes → ℕ → ℕ → Stack → Doing Bool
to_act send_op part count k st = perform send_op st (code_in part k (count - k)) >>= answer

abbrev here : Bytes → ℕ → Instruction
here part k = instruction_from part (6 * k)

abbrev after_here : Bytes → ℕ → ℕ → List Instruction
after_here part count k = code_in part (k + 1) (count - (k + 1))

module _ (send_op : SendOp) (part : Bytes) (count k : ℕ) (st : Stack) (n : Now) where
  act-end : count ≤ k → went false n ≡ to_act send_op part count k st n
  unfolding to_act perform give is_abandoned ◌>>=◌
  act-end h = rw (code-end part k count h)

  act-plain : k < count → is_send (here part k).op ≡ false
      → after (after (paid_for (here part k) st n) (onward (λ st'. perform send_op st' (after_here part count k)))) answer
      ≡ to_act send_op part count k st n
  unfolding to_act ◌>>=◌
  act-plain more plain = rw (code_step part k count more, plain_then send_op (here part k) (after_here part count k) st n plain)

-- the sends of a block of that owner's
abbrev its_sends : Chart → ℕ → State → SendOp
its_sends c sends owner = send_from owner (send c sends)

module _ (c : Chart) (sends : ℕ) (owner : State) (part : Bytes) (count k : ℕ) (st : Stack) (n : Now) where
  act-send : k < count → is_send (here part k).op ≡ true
      → after (paid_send c sends owner (here part k) n) (unless_over (to_act (its_sends c sends owner) part count (k + 1) st))
      ≡ to_act (its_sends c sends owner) part count k st n
  unfolding paid_send to_act ◌>>=◌
  act-send more is =
      rw (code_step part k count more) (sym (send-then (its_sends c sends owner) (here part k) (after_here part count k) st n is))

-- a block's loop: what is still to perform is what there was to perform
pub record Acting (c : Chart) (sends : ℕ) (owner : State) (k : CodeBlock) (n₀ : Now) (part : Bytes) (at : ℕ) (st : Stack) (n : Now) : Type 0 where
  pub units : n.units ≤ n₀.units
  pub same : to_act (its_sends c sends owner) part k.count at st n ≡ acted c sends owner (block_of k) n₀

-- a block of no instructions does nothing
pub act-empty : (c : Chart) (sends : ℕ) (owner : State) (k : CodeBlock) (n : Now) → k.count ≡ 0 → went false n ≡ acted c sends owner (block_of k) n
unfolding acted perform give is_abandoned ◌>>=◌
act-empty c sends owner k n e = rw (no_code c k e)

module _ {c : Chart} {sends : ℕ} {owner : State} {k : CodeBlock} where
  pub acting-start : {part : Bytes} (n : Now) → part ≡ take (6 * k.count) (drop (instruction_at c k.start) c)
      → Acting c sends owner k n part 0 [] n
  unfolding to_act acted
  acting-start n cut =
      let all : k.count - 0 ≡ k.count = omega arith in
      record { units = omega arith; same = rw (all, cut, part-code c (block_of k)) }

  module _ {n₀ n : Now} {part : Bytes} {at : ℕ} {st : Stack} (acting : Acting c sends owner k n₀ part at st n) where
    pub acting-end : k.count ≤ at → went false n ≡ acted c sends owner (block_of k) n₀
    acting-end h = act-end _ part k.count at st n h ∙ acting.same

    module _ (more : at < k.count) {b : Bool} (sending : b ≡ is_send (here part at).op) (n' : Now) where
      -- a send: the block is refused or over, or goes on
      sent : b ≡ true → after (paid_send c sends owner (here part at) n) (unless_over (to_act (its_sends c sends owner) part k.count (at + 1) st))
          ≡ acted c sends owner (block_of k) n₀
      sent is = act-send c sends owner part k.count at st n more (sym sending ∙ is) ∙ acting.same

      module _ (is : b ≡ true) {r : Result Bool Refusal} (says : outcome_of r n' ≡ paid_send c sends owner (here part at) n) where
        pub sent-refused : {why : Refusal} → r ≡ Err why → (all : Result Bool Refusal) (n'' : Now) → IsErrAnd all (λ e. e ≡ why)
            → outcome_of all n'' ≡ acted c sends owner (block_of k) n₀
        sent-refused w all n'' told = refused-ends n' _ says w all n'' told ∙ sent is

        module _ {over : Bool} (w : r ≡ Ok over) where
          pub sent-over : over ≡ true → went true n' ≡ acted c sends owner (block_of k) n₀
          sent-over q = over-ends n' _ says w q ∙ sent is

          pub sent-on : over ≡ false → Acting c sends owner k n₀ part (at + 1) st n'
          sent-on q =
              let fewer = kept (paid_send-falls c sends owner (here part at)) n n' says w in
              record { units = omega (arith, fewer, acting.units); same = not-over n' _ says w q refl ∙ sent is }

      -- another instruction is refused, or goes on
      abbrev rest_acted : Ran → Doing Bool
      rest_acted x n₁ = after (onward (λ st'. perform (its_sends c sends owner) st' (after_here part k.count at)) x n₁) answer

      performed : b ≡ false → after (paid_for (here part at) st n) rest_acted ≡ acted c sends owner (block_of k) n₀
      performed is =
          sym (after-after (paid_for (here part at) st n) _ answer)
          ∙ act-plain (its_sends c sends owner) part k.count at st n more (sym sending ∙ is) ∙ acting.same

      module _ (is : b ≡ false) {r : Result (Unit {0}) Refusal} (st' : Stack) (says : ran_of r st' n' ≡ paid_for (here part at) st n) where
        pub performed-refused : {why : Refusal} → r ≡ Err why → (all : Result Bool Refusal) (n'' : Now) → IsErrAnd all (λ e. e ≡ why)
            → outcome_of all n'' ≡ acted c sends owner (block_of k) n₀
        performed-refused w all n'' told = ran-refused st' n' _ says w all n'' told ∙ performed is

        pub performed-on : {u : Unit {0}} → r ≡ Ok u → Acting c sends owner k n₀ part (at + 1) st' n'
        unfolding to_act unless_abandoned ◌>>=◌
        performed-on w =
            record {
              units = omega (arith, (paid_for-spends (here part at) st).at n _ n' (sym (rw w at says)), acting.units);
              same = ran-next st' n' _ says w refl ∙ performed is;
            }

-- a segment that passes: with no segment more on the path, or its item and its condition action
module _ (c : Chart) (sends : ℕ) (owner : State) (t : Segment) (n : Now) where
  pub full-path : (m : ℕ) → m ≡ 0 → refused (because 19) ≡ passing_within c sends m owner t n
  unfolding passing_within refuse
  full-path m z = rw z

  pub within-path : (m : ℕ) → (m ≡ 0 → ⊥)
      → after (passing c sends owner t n) (λ b. give (when b then Abandoned else Passed)) ≡ passing_within c sends m owner t n
  unfolding passing_within ◌>>=◌
  within-path zero h = absurd (h refl)
  within-path (suc m) h = refl
