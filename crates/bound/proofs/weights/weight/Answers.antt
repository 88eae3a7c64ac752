-- The segment's own count, and where it ends on a junction that junction's sum too. Assumes nothing.
use native.Mathlib.Omega.{arith}
use Rattle.bound.proofs.Starting.{ends-there, ends-on, weighed-there, weighed-on}
use Rattle.bound.proofs.weights.weight.Goals as goal

pub returns-in-State : goal.returns-in-State
returns-in-State c =
    let on = ends-there c.args.chart.now c.args.t.0 c.end.ensures c.in-State.is in
    weighed-there c.args.chart.now c.args.t.0 c.condition-tested.ensures c.condition_action-acted.ensures c.args.sums.now
    (omega arith) (omega arith) on

pub returns-in-Junction : goal.returns-in-Junction
returns-in-Junction c =
    let on = ends-on c.args.chart.now c.args.t.0 c.end.ensures c.in-Junction.is in
    weighed-on c.args.chart.now c.args.t.0 c.condition-tested.ensures c.condition_action-acted.ensures c.args.sums.now on c.plus.ensures
