-- The ways in which each call ends: refused by a test, refused by the step itself, or done. What holds of every such answer holds
-- of the call. Assumes nothing.
use mathlib.Core.Path.{◌≡◌, refl}
use mathlib.Core.Bool.{true}
use mathlib.Core.List.{[]}
use Prim.Native.Nat.{ℕ, zero, suc, ◌≤◌}
use borrow.Author.Tests.{leb-true}
use Rattle.rules.specs.Bytes.{Bytes}
use Rattle.rules.specs.Lists.{◌else◌}
use Rattle.rules.specs.Chart.{Chart}
use Rattle.rules.specs.Accept.{chart_refusal}
use Rattle.rules.specs.Image.{accepted, fresh_image}
use Rattle.rules.specs.Doing.{Refusal, because, Now, Outcome, refused, went, most_units}
use Rattle.rules.specs.Run.{step}
use Rattle.rules.specs.Bound.{bound_refusal, bound}
use Rattle.rules.specs.Calls.{Board, Answer, part, with_part, part_refusal, number_only, unless_refused, fresh_call, bound_call, step_refusal, begin, step_answer, step_call}
use Rattle.rules.proofs.Laws.{unless-zero, else-zero}
use Rattle.rules.proofs.Taken.{right}
use Rattle.rules.proofs.Triple.{Ended}
use Rattle.rules.proofs.Bounded.{Bounded}
use Rattle.rules.proofs.Shape.{Good}
use Rattle.rules.proofs.Stepping.{t-step}
use Rattle.rules.proofs.Boards.{Has, part-has}

-- lift k is on the board, with an image that the taken chart c accepts
pub record Lift (c : Chart) (k : ℕ) (board : Board) : Type 0 where
  pub chart : chart_refusal c ≡ 0
  pub has : Has board k
  pub taken : accepted (part board k) c ≡ true

-- what its tests gave decides: the answer of a call that passed them, or the number alone
by_tests : (P : Answer → Type 0) (board : Board) (trace : Bytes) (a : Answer) (r : ℕ) → (r ≡ 0 → P a)
    → ((k : ℕ) → r ≡ suc k → P (number_only (because (suc k)) board trace)) → P (unless_refused r board trace a)
unfolding unless_refused
by_tests P board trace a zero passing refusing = passing refl
by_tests P board trace a (suc r) passing refusing = refusing r refl

module _ (c : Chart) (board : Board) (k : ℕ) where
  module _ (P : Answer → Type 0) (refusing : (r : ℕ) → P (number_only (because (suc r)) board []))
      (making : chart_refusal c ≡ 0 → Has board k → P (number_only (because 0) (with_part board k (fresh_image c)) [])) where
    pub fresh-ends : P (fresh_call c board k)
    unfolding fresh_call
    fresh-ends =
        by_tests P board [] _ (chart_refusal c else part_refusal board k)
        (λ q. let (a, b) = else-zero (chart_refusal c) (part_refusal board k) q in making a (part-has board k b)) (λ r q. refusing r)

  module _ (e allowance : ℕ) where
    begun : step_refusal c board k e allowance ≡ 0 → Lift c k board × (allowance ≤ most_units)
    unfolding step_refusal
    begun q =
        let (a, q1) = else-zero (chart_refusal c) _ q in
        let (b, q2) = else-zero (part_refusal board k) _ q1 in
        let (t, q3) = unless-zero 12 _ _ q2 in
        let (w, q4) = unless-zero 13 _ _ q3 in
        let (l, q5) = unless-zero 14 _ _ q4 in
        (record { chart = a; has = part-has board k b; taken = t }, leb-true allowance most_units l)

    module _ (trace : Bytes) (P : Answer → Type 0)
        (refusing : (r : ℕ) → step_refusal c board k e allowance ≡ suc r → P (number_only (because (suc r)) board trace))
        (stopping : Lift c k board → (r : Refusal) → step c e (begin (part board k) trace allowance) ≡ refused r
        → P (number_only r board trace))
        (going : Lift c k board → allowance ≤ most_units → (u : Unit {0}) (n : Now)
        → step c e (begin (part board k) trace allowance) ≡ went u n → P (step_answer board trace k allowance (went u n))) where
      step-goes : Lift c k board → allowance ≤ most_units → (o : Outcome (Unit {0}))
          → step c e (begin (part board k) trace allowance) ≡ o → P (step_answer board trace k allowance o)
      unfolding step_answer
      step-goes b l (refused r) q = stopping b r q
      step-goes b l (went u n) q = going b l u n q

      pub step-ends : P (step_call c board trace k e allowance)
      unfolding step_call
      step-ends =
          by_tests P board trace _ (step_refusal c board k e allowance)
          (λ q. let (b, l) = begun q in step-goes b l (step c e (begin (part board k) trace allowance)) refl) refusing

module _ (c : Chart) (P : Answer → Type 0)
    (refusing : (r : ℕ) → (chart_refusal c else bound_refusal c) ≡ suc r → P (number_only (because (suc r)) [] []))
    (giving : chart_refusal c ≡ 0 → bound_refusal c ≡ 0
    → P (record { refusal = because 0; units = 0; items = 0; bound = bound c; board = []; trace = [] })) where
  pub bound-ends : P (bound_call c)
  unfolding bound_call
  bound-ends =
      by_tests P [] [] _ (chart_refusal c else bound_refusal c)
      (λ q. let (a, b) = else-zero (chart_refusal c) (bound_refusal c) q in giving a b) refusing

-- how a step ends that passed its tests: in demand 3's shape if it went, and within the bound where the chart has one
pub ending : (c : Chart) (board : Board) (trace : Bytes) (k e allowance : ℕ) → Lift c k board → (o : Outcome (Unit {0}))
    → step c e (begin (part board k) trace allowance) ≡ o → Ended (Bounded c) (bound c) allowance (λ (_ : Unit {0}). Good c) o
unfolding begin
ending c board trace k e allowance b o w =
    let t : Ended (Bounded c) (bound c) allowance (λ (_ : Unit {0}). Good c) (step c e (begin (part board k) trace allowance)) =
    (t-step c (right c b.chart) e).at (begin (part board k) trace allowance) b.taken in
    rw w at t
