-- The digits before the last stand first, then the last behind them. Assumes nothing.
use mathlib.Core.Path.{◌≡◌, sym, ap, ◌∙◌}
use mathlib.Core.List.{◌++◌, append_assoc, append-nil}
use Prim.Native.Nat.{ℕ}
use native.Mathlib.Omega.{arith}
use lib.ListN.{length, length-append}
use Rattle.rules.specs.Bytes.{Bytes}
use Rattle.session.proofs.Texts.{before_last, no-digits, none-before, some-before, decimal-last, before-room}
use Rattle.session.proofs.lines.Line.+digits.Goals as goal
use Rattle.session.proofs.lines.Line.+digits.Goals.{Joined-n-ge10, then-n-ge10, else-n-ge10}

so_far : (t : ℕ) (c : Joined-n-ge10 t) → c.if-n-ge10.self ≡ c.args.self.now ++ before_last c.args.most c.args.n
so_far t c = elim c.if-n-ge10.branch [
  | then-n-ge10 w ↦ w.self-is ∙ w.digits.ensures ∙ ap (λ (k : Bytes). c.args.self.now ++ k) (sym (some-before c.args.most c.args.n w.if-n-ge10.true))
  | else-n-ge10 w ↦ w.self-is ∙ sym (append-nil c.args.self.now) ∙ ap (λ (k : Bytes). c.args.self.now ++ k) (sym (none-before c.args.most c.args.n w.if-n-ge10.false))
]

pub returns-then-most-eq0 : goal.returns-then-most-eq0
returns-then-most-eq0 t c = rw (no-digits c.args.most c.args.n c.if-most-eq0.true) (sym (append-nil c.args.self.now))

pub push-requires : goal.push-requires
push-requires t c =
    let size = ap length (so_far t (goal.at.push-requires t c).Joined-n-ge10) in
    omega (arith, c.requires, size, length-append c.args.self.now (before_last c.args.most c.args.n), before-room c.args.most c.args.n c.if-most-eq0.false)

pub returns : goal.returns
returns t c =
    c.push.ensures
    ∙ rw (so_far t (goal.at.returns t c).Joined-n-ge10, decimal-last c.args.most c.args.n c.if-most-eq0.false)
    (append_assoc c.args.self.now (before_last c.args.most c.args.n) _)
