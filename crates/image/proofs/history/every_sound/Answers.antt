-- Each state's record is tested. Assumes nothing.
use mathlib.Core.Path.{ap}
use borrow.Author.Rules.{rules}
use borrow.Author.Tests.{tests}
use Rattle.rules.specs.declared.headers.Header.{Header}
use Rattle.rules.specs.Image.{history_sound}
use Rattle.image.proofs.Tests.{every-below}
use Rattle.image.proofs.history.every_sound.Goals as goal

pub returns : goal.returns
returns c = every-below (history_sound c.args.image.now c.args.chart.now) (ap (λ (h : Header). h.states) c.header.ensures) _ _ _ c.all.ensures.ran (λ x b q k. search (rules, tests))
