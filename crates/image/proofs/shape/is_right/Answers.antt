-- The root is active, and the shape is right at every state. Assumes nothing.
use mathlib.Core.Path.{ap}
use borrow.Author.Rules.{rules}
use borrow.Author.Tests.{tests}
use Rattle.rules.specs.declared.headers.Header.{Header}
use Rattle.rules.specs.Image.{shape, shape_at}
use Rattle.image.proofs.Tests.{every-below}
use Rattle.image.proofs.shape.is_right.Goals as goal

pub returns : goal.returns
unfolding shape
returns c = rw (← c.is_active.ensures, c.if-not-is_active.false)
    (every-below (shape_at c.args.image.now c.args.chart.now) (ap (λ (h : Header). h.states) c.header.ensures) _ _ _ c.all.ensures.ran (λ x b q k. search (rules, tests)))
