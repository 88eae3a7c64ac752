-- `turns::following` meets its contract: one law for each way out. Assumes nothing.
use mathlib.Core.Path.{sym, ◌∙◌}
use mathlib.Core.Logic.{inl, inr}
use Rattle.engine.proofs.Turning.{follows-none, follows-past, follows_next}
use Rattle.engine.proofs.turns.following.Goals as goal

pub returns-then-h-s : goal.returns-then-h-s
returns-then-h-s c =
    elim c.if-h-s.either [
      | inl one ↦ sym (follows-none c.args.chart.now _ _ _ (sym c.is_one_of.ensures ∙ one))
      | inr all ↦ sym (follows-past c.args.chart.now _ _ _ (sym c.is_one_of.ensures ∙ all.0) all.1)
    ]

pub returns-else-h-s : goal.returns-else-h-s
returns-else-h-s c =
    sym (follows_next c.args.chart.now _ _ _ (sym c.is_one_of.ensures ∙ c.if-h-s.false.0) c.if-h-s.false.1)
