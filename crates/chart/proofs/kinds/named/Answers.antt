-- Each number by itself, and every other is no kind's. Assumes nothing.
use native.Mathlib.Omega.{arith}
use borrow.Author.Tests.{ne_eqb}
use Rattle.rules.specs.Lists.{when◌then◌else◌}
use Rattle.chart.proofs.kinds.named.Goals as goal

pub returns-in-0 : goal.returns-in-0
unfolding when◌then◌else◌
returns-in-0 c = rw c.in-0.is

pub returns-in-1 : goal.returns-in-1
unfolding when◌then◌else◌
returns-in-1 c = rw c.in-1.is

pub returns-in-2 : goal.returns-in-2
unfolding when◌then◌else◌
returns-in-2 c = rw c.in-2.is

pub returns-in_default : goal.returns-in_default
unfolding when◌then◌else◌
returns-in_default c = rw
    (ne_eqb c.args.number 0 (λ e. omega arith), ne_eqb c.args.number 1 (λ e. omega arith), ne_eqb c.args.number 2 (λ e. omega arith))
