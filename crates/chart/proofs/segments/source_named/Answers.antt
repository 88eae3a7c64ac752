-- Each kind by itself, and every other is unknown. Assumes nothing.
use native.Mathlib.Omega.{arith}
use borrow.Author.Tests.{ne_eqb}
use Rattle.rules.specs.Lists.{when◌then◌else◌}
use Rattle.chart.proofs.segments.source_named.Goals as goal

pub returns-in-0 : goal.returns-in-0
unfolding when◌then◌else◌
returns-in-0 c = rw c.in-0.is

pub returns-in-1 : goal.returns-in-1
unfolding when◌then◌else◌
returns-in-1 c = rw c.in-1.is

pub returns-in-2 : goal.returns-in-2
unfolding when◌then◌else◌
returns-in-2 c = rw c.in-2.is

pub returns-in_default : goal.returns-in_default
unfolding when◌then◌else◌
returns-in_default c = rw
    (ne_eqb c.args.kind 0 (λ e. omega arith), ne_eqb c.args.kind 1 (λ e. omega arith), ne_eqb c.args.kind 2 (λ e. omega arith))
