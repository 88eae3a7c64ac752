-- The tests in the rules' order: the first that fails gives the refusal, and past all the bound is the answer.
-- Assumes nothing.
use Rattle.bound.proofs.Told.{told-sends, told-loops, told-bound, told-units}
use Rattle.bound.proofs.bound.Goals as goal

pub returns-then-not-sends_nowhere : goal.returns-then-not-sends_nowhere
returns-then-not-sends_nowhere c = told-sends c.args.chart.now c.sends_nowhere.ensures c.if-not-sends_nowhere.true

pub returns-then-not-loops_nowhere : goal.returns-then-not-loops_nowhere
returns-then-not-loops_nowhere c = told-loops c.args.chart.now c.sends_nowhere.ensures c.if-not-sends_nowhere.false c.loops_nowhere.ensures c.if-not-loops_nowhere.true

pub returns-then-units-gt-MOST_UNITS : goal.returns-then-units-gt-MOST_UNITS
returns-then-units-gt-MOST_UNITS c =
    told-bound c.args.chart.now c.sends_nowhere.ensures c.if-not-sends_nowhere.false c.loops_nowhere.ensures c.if-not-loops_nowhere.false
    c.bound-units.ensures c.if-units-gt-MOST_UNITS.true

pub returns : goal.returns
returns c =
    told-units c.args.chart.now c.sends_nowhere.ensures c.if-not-sends_nowhere.false c.loops_nowhere.ensures c.if-not-loops_nowhere.false
    c.bound-units.ensures c.if-units-gt-MOST_UNITS.false
