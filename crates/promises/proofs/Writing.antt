-- What a call does to the board. One that goes writes its lift's part with an image that its chart accepts, and that is started
-- unless the call is fresh; one that is refused writes nothing, and neither does the bound call. By the ways in which each call
-- ends. Assumes nothing.
use mathlib.Core.Path.{◌≡◌, refl, sym, ◌∙◌}
use mathlib.Core.Bool.{true, false}
use Prim.Native.Nat.{ℕ}
use native.Mathlib.Omega.{arith}
use lib.ListN.{length}
use Rattle.rules.specs.Accept.{chart_refusal}
use Rattle.rules.specs.Image.{Image, image_size, accepted, not_started, fresh_image}
use Rattle.rules.specs.Doing.{because, went}
use Rattle.rules.specs.Calls.{Board, with_part, number_only, step_answer}
use Rattle.rules.proofs.Taken.{right, tree}
use Rattle.rules.proofs.Refusing.{step-refuses}
use Rattle.rules.proofs.Boards.{Has}
use Rattle.rules.proofs.Freshness.{fresh-size, fresh-accepted}
use Rattle.rules.proofs.Accepting.{good-accepted}
use Rattle.rules.proofs.Stepping.{good-started}
use Rattle.promises.specs.Many.{Call, fresh, step, bound, Goes, after_call, chart_of, IsFor, IsFresh}
use Rattle.promises.proofs.Calling.{ending, fresh-ends, step-ends}

-- a call is for one lift
pub one-lift : (x : Call) {k j : ℕ} → IsFor k x → IsFor j x → k ≡ j
one-lift (fresh c i) p q = sym p ∙ q
one-lift (step c trace i e allowance) p q = sym p ∙ q
one-lift (bound c) p q = absurd p

-- an image that call x can write for lift k
pub record Written (x : Call) (k : ℕ) (board : Board) (im : Image) : Type 0 where
  pub for : IsFor k x
  pub chart : chart_refusal (chart_of x) ≡ 0
  pub has : Has board k
  pub size : length im ≡ image_size
  pub taken : accepted im (chart_of x) ≡ true
  pub started : (IsFresh k x → ⊥) → not_started im ≡ false

pub data Wrote (x : Call) (board : Board) (goes : Type 0) : Board → Type 0 where
  nothing : (goes → (k : ℕ) → IsFor k x → ⊥) → Wrote x board goes board
  image : goes → (k : ℕ) (im : Image) → Written x k board im → Wrote x board goes (with_part board k im)

pub call-writes : (x : Call) (board : Board) → Wrote x board (Goes x board) (after_call x board)
unfolding number_only because step_answer
call-writes (fresh c k) board =
    fresh-ends c board k (λ a. Wrote (fresh c k) board (a.refusal.number ≡ 0) a.board)
    (λ r. nothing (λ g. absurd (omega arith)))
    (λ z h.
    let t = tree c (right c z) in
    image refl k (fresh_image c)
    (record {
      for = refl;
      chart = z;
      has = h;
      size = fresh-size c t;
      taken = fresh-accepted c t;
      started = λ not. absurd (not refl);
    }))
call-writes (step c trace k e allowance) board =
    step-ends c board k e allowance trace (λ a. Wrote (step c trace k e allowance) board (a.refusal.number ≡ 0) a.board)
    (λ r q. nothing (λ g. absurd (omega arith)))
    (λ b r q. nothing (λ g. absurd (omega (arith, (step-refuses c e _ r q).0))))
    (λ b l u n w.
    let g = (ending c board trace k e allowance b (went u n) w).0 in
    image refl k n.image
    (record {
      for = refl;
      chart = b.chart;
      has = b.has;
      size = g.sound.size;
      taken = good-accepted c n.image g;
      started = λ _. good-started c n.image g;
    }))
call-writes (bound c) board = nothing (λ g k f. f)
