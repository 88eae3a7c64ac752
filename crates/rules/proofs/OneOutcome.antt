-- Each call has one outcome: two answers, with the bytes left, that both meet the call's contract are the same. A contract
-- is an equation with the call's definition, so the two equations are joined. Assumes nothing.
use mathlib.Core.Path.{◌≡◌, sym, ap, ◌∙◌}
use mathlib.Core.List.{[]}
use Prim.Native.Nat.{ℕ}
use Rattle.rules.specs.Bytes.{Bytes}
use Rattle.rules.specs.Chart.{Chart}
use Rattle.rules.specs.Calls.{Board, Answer, Observed, observed, step_call, fresh_call, bound_call}

-- what a contract says of the number answered and the bytes left
abbrev pub has : ℕ → Board → Bytes → Observed
has r board trace = record { answer = r; board = board; trace = trace }

-- both meet the contract of a call that gives a
one : (a : Answer) (r r' : ℕ) (b b' : Board) (t t' : Bytes) → has r b t ≡ observed a → has r' b' t' ≡ observed a → (r ≡ r') × (b ≡ b') × (t ≡ t')
one a r r' b b' t t' p q =
    let e = p ∙ sym q in
    (ap (λ l. l.answer) e, ap (λ l. l.board) e, ap (λ l. l.trace) e)

module _ (c : Chart) where
  pub step-has-one :
      (board : Board) (trace : Bytes) (k e allowance : ℕ) (r r' : ℕ) (b b' : Board) (t t' : Bytes)
      → has r b t ≡ observed (step_call c board trace k e allowance)
      → has r' b' t' ≡ observed (step_call c board trace k e allowance)
      → (r ≡ r') × (b ≡ b') × (t ≡ t')
  step-has-one board trace k e allowance = one (step_call c board trace k e allowance)

  pub fresh-has-one :
      (board : Board) (k : ℕ) (r r' : ℕ) (b b' : Board)
      → has r b [] ≡ observed (fresh_call c board k)
      → has r' b' [] ≡ observed (fresh_call c board k)
      → (r ≡ r') × (b ≡ b')
  fresh-has-one board k r r' b b' p q =
      let o = one (fresh_call c board k) r r' b b' [] [] p q in
      (o.0, o.1)

  pub bound-has-one : (r r' : ℕ) → has r [] [] ≡ observed (bound_call c) → has r' [] [] ≡ observed (bound_call c) → r ≡ r'
  bound-has-one r r' p q = (one (bound_call c) r r' [] [] [] [] p q).0
