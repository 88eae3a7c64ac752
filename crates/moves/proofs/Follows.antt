-- A loop down a list, each done in turn: what was to do for all at the start is what is to do for those left, and a refused one
-- ends the loop. Assumes nothing.
use mathlib.Core.Path.{◌≡◌, refl, sym, ◌∙◌}
use mathlib.Core.List.{List, [], ◌∷◌}
use Prim.Native.Nat.{ℕ, suc, ◌+◌, ◌-◌, ◌<◌}
use native.Mathlib.Omega.{arith}
use native.Mathlib.Numerals.{add-one}
use lib.ListN.{length, drop, get_or}
use lib.Seq.{drop-cons}
use Rattle.std.specs.Prelude.{Result, Ok, Err}
use Rattle.std.specs.Result.{IsErrAnd}
use Rattle.rules.specs.Doing.{Now, Done, went, each, ◌>>◌, done, give}
use Rattle.rules.specs.declared.refusals.Refusal.{Refusal}
use Rattle.doing.specs.Outcomes.{outcome_of}
use Rattle.doing.proofs.Sequels.{refused-ends, went-next}

-- one less than the next
pub less_one : (n : ℕ) → suc n - 1 ≡ n
less_one n = omega arith

-- those left from a place of a list on
pub next-at : (xs : List ℕ) (i : ℕ) → i < length xs → drop i xs ≡ get_or xs i 0 ∷ drop (i + 1) xs
next-at xs i h = rw (add-one i, drop-cons xs i 0 h)

-- a loop's invariant: what is to do for all at the start is what is to do for those left
pub record Turn (f : ℕ → Done) (all : List ℕ) (n₀ : Now) (left : List ℕ) (n : Now) : Type 0 where
  pub same : each f all n₀ ≡ each f left n

-- at the start all are left
pub turn-start : {f : ℕ → Done} {all left : List ℕ} {n : Now} → all ≡ left → Turn f all n left n
turn-start e = record { same = rw e }

module _ {f : ℕ → Done} {all : List ℕ} {n₀ : Now} {left : List ℕ} {n : Now} (turn : Turn f all n₀ left n) where
  -- none is left
  pub turn-done : left ≡ [] → went tt n ≡ each f all n₀
  unfolding each done give
  turn-done e = rw (turn.same, e)

  -- nothing to do in this turn
  pub turn-pass : {left' : List ℕ} → each f left n ≡ each f left' n → {n' : Now} → n' ≡ n → Turn f all n₀ left' n'
  turn-pass e i = rw i (record { same = turn.same ∙ e })

  -- the next one of those left is refused, or done
  module _ {x : ℕ} {left' : List ℕ} (e : left ≡ x ∷ left') {r : Result (Unit {0}) Refusal} (n' : Now) (told : outcome_of r n' ≡ f x n) where
    pub turn-refused : {why : Refusal} → r ≡ Err why → (out : Result (Unit {0}) Refusal) (n'' : Now) → IsErrAnd out (λ w. w ≡ why)
        → outcome_of out n'' ≡ each f all n₀
    unfolding each ◌>>◌
    turn-refused is out n'' ends = rw (turn.same, e) (refused-ends n' _ told is out n'' ends)

    pub turn-went : {u : Unit {0}} → r ≡ Ok u → {n'' : Now} → n'' ≡ n' → Turn f all n₀ left' n''
    unfolding each ◌>>◌
    turn-went is i = rw i (record { same = rw (turn.same, e) (sym (went-next n' _ told is refl)) })
