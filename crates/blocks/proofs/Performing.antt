-- A block, instruction by instruction: what is still to perform, and that the block's part of a chart has its instructions.
-- Assumes nothing.
use mathlib.Core.Path.{◌≡◌, refl, sym, ap, ◌∙◌}
use mathlib.Core.List.{List, [], ◌∷◌, map}
use Prim.Native.Nat.{ℕ, zero, suc, ◌+◌, ◌-◌, ◌*◌, ◌≤◌, ◌<◌}
use native.Mathlib.Nat.{sub-eq-zero_of_le}
use native.Mathlib.Omega.{arith}
use lib.ListN.{take, drop}
use lib.Seq.{get_or-take}
use Rattle.std.specs.Prelude.{Result, Ok, Err}
use Rattle.std.specs.Result.{IsErrAnd}
use Rattle.std.proofs.lemmas.Result.{err_from_is_err_and}
use Rattle.rules.specs.Bytes.{Bytes, field, signed}
use Rattle.rules.specs.Lists.{up_from}
use Rattle.rules.specs.Chart.{Chart, op_of, Instruction, Block, instruction, instruction_at, code}
use Rattle.rules.specs.Doing.{Now, Outcome, refused, went, Doing, give, after, ◌>>=◌, ◌>>◌, pay, done}
use Rattle.rules.specs.Block.{Stack, Ran, ran, abandoned, unless_abandoned, no_send, instruct, perform, action}
use Rattle.rules.specs.declared.refusals.Refusal.{Refusal}
use Rattle.chart.specs.Read.{block_of, instruction_from}
use Rattle.chart.specs.declared.blocks.Block.{Block as CodeBlock}
use Rattle.chart.proofs.Parts.{instruction-drop, same-fields}
use Rattle.doing.specs.Outcomes.{outcome_of}
use Rattle.doing.proofs.Sequels.{went-next}
use Rattle.blocks.specs.Performed.{ran_of}
use Rattle.blocks.specs.Code.{code_in, instructed, paid_for}

-- the exit of a `?`: a refusal is the answer of all
pub refused-runs : {A : Type 0} {o : Outcome A} {r : Result A Refusal} (n : Now) (f : A → Doing Ran) → outcome_of r n ≡ o
    → {why : Refusal} → r ≡ Err why → (all : Result (Unit {0}) Refusal) (st : Stack) (n' : Now) → IsErrAnd all (λ e. e ≡ why)
    → ran_of all st n' ≡ after o f
refused-runs n f says is all st n' told = let p = err_from_is_err_and all told in rw (p.1, p.2, sym says, is)

-- paid before it
module _ (i : Instruction) (st : Stack) (n : Now) {r : Result (Unit {0}) Refusal} (n' : Now) (says : outcome_of r n' ≡ pay n) where
  pub unpaid : {why : Refusal} → r ≡ Err why → (all : Result (Unit {0}) Refusal) → IsErrAnd all (λ e. e ≡ why)
      → ran_of all st n' ≡ paid_for i st n
  unfolding paid_for ◌>>◌
  unpaid is all told = refused-runs _ _ says is all st n' told

  pub paid-for : {u : Unit {0}} → r ≡ Ok u → {all : Outcome Ran} → all ≡ instructed i st n' → all ≡ paid_for i st n
  unfolding paid_for ◌>>◌
  paid-for is next = went-next _ _ says is next

-- the first, paid, and then the rest
after-after : {A B C : Type 0} (o : Outcome A) (f : A → Doing B) (g : B → Doing C)
    → after (after o f) g ≡ after o (λ a. f a >>= g)
unfolding ◌>>=◌
after-after (refused r) f g = refl
after-after (went a n) f g = refl

module _ (i : Instruction) (rest : List Instruction) (st : Stack) (n : Now) where
  first_then : after (paid_for i st n) (λ r. unless_abandoned r abandoned (λ st'. perform no_send st' rest))
      ≡ perform no_send st (i ∷ rest) n
  unfolding paid_for instructed perform ◌>>◌
  first_then = after-after (pay n) (λ _. instruct no_send i.op i st) (λ r. unless_abandoned r abandoned (λ st'. perform no_send st' rest))

  module _ {r : Result (Unit {0}) Refusal} (st' : Stack) (n' : Now) (says : ran_of r st' n' ≡ paid_for i st n) where
    first-refused : {why : Refusal} → r ≡ Err why → (all : Result (Unit {0}) Refusal) → IsErrAnd all (λ e. e ≡ why)
        → ran_of all st' n' ≡ perform no_send st (i ∷ rest) n
    first-refused is all told =
        let p = err_from_is_err_and all told in
        rw (p.1, p.2) (rw (sym says, is) at first_then)

    first-ran : {u : Unit {0}} → r ≡ Ok u → perform no_send st' rest n' ≡ perform no_send st (i ∷ rest) n
    unfolding unless_abandoned
    first-ran is = rw (sym says, is) at first_then

-- the instructions from k on: none, or the k-th and those after it
module _ (part : Bytes) (k count : ℕ) where
  pub code-end : count ≤ k → code_in part k (count - k) ≡ []
  unfolding code_in up_from
  code-end h = rw (sub-eq-zero_of_le h)

  pub code_step : k < count → code_in part k (count - k) ≡ instruction_from part (6 * k) ∷ code_in part (k + 1) (count - (k + 1))
  unfolding code_in up_from
  code_step h = let q : count - k ≡ suc (count - (k + 1)) = omega arith in rw q

-- what is to perform from k on: at the start all of it, at the end nothing more
unfoldable pub to_perform : Bytes → ℕ → ℕ → Stack → Now → Outcome Ran
to_perform part count k st n = perform no_send st (code_in part k (count - k)) n

pub run-start : (part : Bytes) (count : ℕ) (st : Stack) (n : Now)
    → to_perform part count 0 st n ≡ perform no_send st (code_in part 0 count) n
unfolding to_perform
run-start part count st n = let q : count - 0 ≡ count = omega arith in rw q

module _ (part : Bytes) (count k : ℕ) (st : Stack) (n : Now) where
  pub run_end : count ≤ k → went (ran st) n ≡ to_perform part count k st n
  unfolding to_perform perform give
  run_end h = rw (code-end part k count h)

  module _ (more : k < count) {r : Result (Unit {0}) Refusal} (st' : Stack) (n' : Now)
      (says : ran_of r st' n' ≡ paid_for (instruction_from part (6 * k)) st n) where
    pub run-refused : {why : Refusal} → r ≡ Err why → (all : Result (Unit {0}) Refusal) → IsErrAnd all (λ e. e ≡ why)
        → ran_of all st' n' ≡ to_perform part count k st n
    unfolding to_perform
    run-refused is all told = rw (code_step part k count more) (first-refused _ _ st n st' n' says is all told)

    pub run-goes : {u : Unit {0}} → r ≡ Ok u → to_perform part count (k + 1) st' n' ≡ to_perform part count k st n
    unfolding to_perform
    run-goes is = rw (code_step part k count more) (first-ran _ _ st n st' n' says is)

-- what is read inside a part that is cut off is what stands there in the whole
field-take : (w m : ℕ) (b : Bytes) (i : ℕ) → i + w ≤ m → field w (take m b) i ≡ field w b i
field-take zero m b i h = refl
field-take (suc w) m b i h = omega (arith, get_or-take m b i 0 (omega arith), field-take w m b (i + 1) (omega arith))

instruction-take : (m : ℕ) (b : Bytes) (i : ℕ) → i + 6 ≤ m → instruction_from (take m b) i ≡ instruction_from b i
instruction-take m b i h =
    same-fields (ap op_of (get_or-take m b (i + 2) 0 (omega arith))) (get_or-take m b (i + 3) 0 (omega arith))
    (ap (signed 2) (field-take 2 m b (i + 4) (omega arith)))

-- a block's instructions, read from its part of the chart
module _ (c : Chart) (start : ℕ) where
  instruction-part : (count i : ℕ) → i < count
      → instruction_from (take (6 * count) (drop (instruction_at c start) c)) (6 * i) ≡ instruction c (start + i)
  unfolding instruction
  instruction-part count i h =
      let same : instruction_at c start + 6 * i ≡ instruction_at c (start + i) = omega arith in
      instruction-take (6 * count) (drop (instruction_at c start) c) (6 * i) (omega arith)
      ∙ instruction-drop c (instruction_at c start) (6 * i) ∙ ap (instruction_from c) same

  code_same : (part : Bytes) (n k : ℕ)
      → ((i : ℕ) → i < k + n → instruction_from part (6 * i) ≡ instruction c (start + i))
      → code_in part k n ≡ map (instruction c) (up_from (start + k) n)
  unfolding code_in up_from
  code_same part zero k each = refl
  code_same part (suc n) k each =
      let next : start + (k + 1) ≡ start + k + 1 = omega arith in
      rw (each k (omega arith)) (ap (◌∷◌ (instruction c (start + k))) (rw next at (code_same part n (k + 1) (λ i h. each i (omega arith)))))

pub part-code : (c : Chart) (k : Block) → code_in (take (6 * k.count) (drop (instruction_at c k.start) c)) 0 k.count ≡ code c k
unfolding code
part-code c k =
    let from : k.start + 0 ≡ k.start = omega arith in
    code_same c k.start _ k.count 0 (λ i h. instruction-part c k.start k.count i (omega arith))
    ∙ ap (λ (s : ℕ). map (instruction c) (up_from s k.count)) from

-- and an action that performs them
after-done : (r : Result (Unit {0}) Refusal) (st : Stack) (n : Now) → outcome_of r n ≡ after (ran_of r st n) (λ _. done)
unfolding done give
after-done (Err why) st n = refl
after-done (Ok u) st n = refl

pub action-is : (c : Chart) (k : CodeBlock) (n : Now) {part : Bytes} → part ≡ take (6 * k.count) (drop (instruction_at c k.start) c)
    → (r : Result (Unit {0}) Refusal) (st' : Stack) (n' : Now) → ran_of r st' n' ≡ perform no_send [] (code_in part 0 k.count) n
    → outcome_of r n' ≡ action c (block_of k) n
unfolding action ◌>>◌
action-is c k n cut r st' n' says = rw (after-done r st' n', says, cut, part-code c (block_of k))

-- a block of no instructions
pub no_code : (c : Chart) (k : CodeBlock) → k.count ≡ 0 → code c (block_of k) ≡ []
unfolding code up_from
no_code c k e = rw e

pub action-empty : (c : Chart) (k : CodeBlock) (n : Now) → k.count ≡ 0 → went tt n ≡ action c (block_of k) n
unfolding action perform done give ◌>>◌
action-empty c k n e = rw (no_code c k e)
