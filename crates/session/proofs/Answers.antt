-- What a call answered, taken apart: the parts of the one number, and what was left of the lent bytes. Assumes nothing.
use mathlib.Core.Path.{◌≡◌, ap}
use mathlib.Core.Bool.{Bool, not}
use mathlib.Core.List.{[], ◌∷◌}
use Prim.Native.Nat.{ℕ, ◌/◌, ◌%◌, ◌≤◌}
use Rattle.rules.specs.Bytes.{Bytes}
use Rattle.rules.specs.Lists.{within}
use Rattle.rules.specs.Chart.{Chart}
use Rattle.rules.specs.Calls.{Board, Answer, bound_call, step_call, Observed, packed, observed}
use Rattle.rules.specs.Session.{line, items_in, step_line}
use Rattle.promises.proofs.Unpacking.{step-unpacked, step_fits, bound-unpacked}
use Rattle.session.specs.Said.{told}

module _ (c : Chart) {r : ℕ} (so : record { answer = r; board = []; trace = [] } ≡ observed (bound_call c)) where
  pub bound-parts : (r % 256 ≡ (bound_call c).refusal.number) × (r / 256 ≡ (bound_call c).bound)
  unfolding observed
  bound-parts = let e : r ≡ packed (bound_call c) = ap (λ (l : Observed). l.answer) so in rw e (bound-unpacked c)

-- events follow, as the code tests the refusal
pub follow : {n k : ℕ} {t : Bool} → n ≡ k → t ≡ within 1 11 n → not t ≡ not (within 1 11 k)
follow e test = rw (test, e)

module _ (c : Chart) (board : Board) (trace : Bytes) (k e allowance : ℕ) where
  abbrev a : Answer
  a = step_call c board trace k e allowance

  module _ {r : ℕ} {board' : Board} {trace' : Bytes} (so : record { answer = r; board = board'; trace = trace' } ≡ observed a) where
    unpacked : (r % 256 ≡ a.refusal.number) × (r / 256 % 512 ≡ a.items) × (r / 131072 ≡ a.units)
    unfolding observed
    unpacked = let q : r ≡ packed a = ap (λ (l : Observed). l.answer) so in rw q (step-unpacked c board trace k e allowance)

    pub few-items : r / 256 % 512 ≤ 256
    few-items = rw unpacked.1 (step_fits c board trace k e allowance).0

    -- the line of the parts is the step's
    pub step-told : {l : Bytes} → l ≡ line (r % 256 ∷ r / 131072 ∷ r / 256 % 512 ∷ items_in (r / 256 % 512) trace')
        → record { said = l; board = board'; trace = trace' } ≡ told a
    unfolding observed step_line
    step-told e =
        let boards : board' ≡ a.board = ap (λ (l : Observed). l.board) so in
        let traces : trace' ≡ a.trace = ap (λ (l : Observed). l.trace) so in
        rw (e, unpacked.0, unpacked.1, unpacked.2, boards, traces)
