-- What a host takes out of the one number it is handed: each part as the call answers it, since the refusals are below 256 and
-- the items at most 256. Assumes nothing.
use mathlib.Core.Path.{◌≡◌}
use Prim.Native.Nat.{ℕ, suc, ◌+◌, ◌*◌, ◌-◌, ◌/◌, ◌%◌, ◌≤◌, ◌<◌}
use native.Mathlib.Omega.{arith}
use lib.ListN.{length}
use borrow.Author.Tests.{leb-true}
use Rattle.rules.specs.Bytes.{Bytes}
use Rattle.rules.specs.Chart.{Chart}
use Rattle.rules.specs.Doing.{because, Now, went, most_units}
use Rattle.rules.specs.Run.{step}
use Rattle.rules.specs.Calls.{Board, part, number_only, fresh_call, bound_call, begin, step_answer, step_call, packed}
use Rattle.rules.specs.Bound.{bound, bound_refusal}
use Rattle.rules.proofs.Laws.{unless-zero}
use Rattle.rules.proofs.Refusing.{step-refuses}
use Rattle.rules.proofs.Rooming.{step-rooms}
use Rattle.promises.specs.Many.{Unpacked}
use Rattle.promises.proofs.Calling.{fresh-ends, step-ends, bound-ends}
use Rattle.promises.proofs.Numbers.{tests-most, bound-tests-most}

by_parts : (number items units : ℕ) → number < 256 → items < 512
    → ((number + 256 * (items + 0) + 131072 * units) % 256 ≡ number)
    × ((number + 256 * (items + 0) + 131072 * units) / 256 % 512 ≡ items)
    × ((number + 256 * (items + 0) + 131072 * units) / 131072 ≡ units)
by_parts number items units h g = (omega arith, omega arith, omega arith)

few : (c : Chart) (board : Board) (trace : Bytes) (k e allowance : ℕ) (u : Unit {0}) (n : Now)
    → step c e (begin (part board k) trace allowance) ≡ went u n → length n.trace ≤ 256
unfolding begin
few c board trace k e allowance u n w = omega (arith, step-rooms c e (begin (part board k) trace allowance) u n w)

pub step-unpacked : (c : Chart) (board : Board) (trace : Bytes) (k e allowance : ℕ)
    → Unpacked (step_call c board trace k e allowance)
unfolding packed number_only because step_answer
step-unpacked c board trace k e allowance =
    step-ends c board k e allowance trace Unpacked
    (λ r q. by_parts (suc r) 0 0 (omega (arith, tests-most c board k e allowance)) (omega arith))
    (λ b r q. by_parts r.number 0 0 (omega (arith, (step-refuses c e _ r q).1)) (omega arith))
    (λ b l u n w.
    by_parts 0 (length n.trace) (allowance - n.units) (omega arith) (omega (arith, few c board trace k e allowance u n w)))

-- and each part fits the header's `unsigned`: at most 256 items and 1,000,000 units
pub step_fits : (c : Chart) (board : Board) (trace : Bytes) (k e allowance : ℕ)
    → ((step_call c board trace k e allowance).items ≤ 256) × ((step_call c board trace k e allowance).units ≤ most_units)
unfolding number_only step_answer
step_fits c board trace k e allowance =
    step-ends c board k e allowance trace (λ a. (a.items ≤ 256) × (a.units ≤ most_units)) (λ r q. (omega arith, omega arith))
    (λ b r q. (omega arith, omega arith)) (λ b l u n w. (few c board trace k e allowance u n w, omega arith))

-- the answer of fresh is its refusal's number
pub fresh-unpacked : (c : Chart) (board : Board) (k : ℕ) → packed (fresh_call c board k) ≡ (fresh_call c board k).refusal.number
unfolding packed number_only
fresh-unpacked c board k =
    fresh-ends c board k (λ a. packed a ≡ a.refusal.number) (λ r. omega arith) (λ z h. omega arith)

-- what `afraulenc_unpack_bound` takes out
pub bound-unpacked : (c : Chart)
    → (packed (bound_call c) % 256 ≡ (bound_call c).refusal.number) × (packed (bound_call c) / 256 ≡ (bound_call c).bound)
unfolding packed number_only because
bound-unpacked c =
    bound-ends c (λ a. (packed a % 256 ≡ a.refusal.number) × (packed a / 256 ≡ a.bound))
    (λ r q. (omega (arith, bound-tests-most c), omega (arith, bound-tests-most c))) (λ z q. (omega arith, omega arith))

pub bound-fits : (c : Chart) → (bound_call c).bound ≤ most_units
unfolding number_only bound_refusal
bound-fits c =
    bound-ends c (λ a. a.bound ≤ most_units) (λ r q. omega arith)
    (λ z q.
    let (a, q1) = unless-zero 20 _ _ q in
    let (b, q2) = unless-zero 21 _ _ q1 in
    let (l, q3) = unless-zero 22 _ _ q2 in
    leb-true (bound c) most_units l)
