-- The part that is there is tested, and what is past the end is zero. Assumes nothing.
use mathlib.Core.Path.{sym, ◌∙◌}
use native.Mathlib.Omega.{arith}
use borrow.Author.Tests.{le-leb}
use Rattle.image.proofs.Zeros.{beyond, up-to-end}
use Rattle.image.proofs.rest.zeros_between.Goals as goal

pub returns-then-end-from : goal.returns-then-end-from
returns-then-end-from c = le-leb c.min-end.result c.args.from (omega arith) ∙ sym (beyond c.args.image.now c.args.from c.args.to (omega arith))

pub returns-else-end-from : goal.returns-else-end-from
returns-else-end-from c = up-to-end c.args.image.now c.args.from c.min-end.result c.args.to c.min-end.ensures c.if-end-from.false c.zeros.ensures
