-- What the code's types mean. Assumes nothing.
use Rattle.std.specs.Prelude.{ℕ, Result, Ok, Err}
use Rattle.rules.specs.Types.{number_of}
use Rattle.rules.specs.declared.refusals.Refusal.{Refusal}
use Rattle.rules.specs.Accept.{Effect, none, acts, sends, Operands, bare, a_value, a_variable, an_output, an_event_and_state, no_op, OpRule, rule, Place, in_condition, in_action, in_sending_action}
use Rattle.checker.specs.declared.blocks.Place.{Place as CodePlace}
use Rattle.checker.specs.declared.blocks.Place.TheVariants.{Condition, Action, SendingAction}
use Rattle.checker.specs.declared.ops.Effect.{Effect as CodeEffect}
use Rattle.checker.specs.declared.ops.Effect.TheVariants.{Nothing, Acts, Sends}
use Rattle.checker.specs.declared.ops.Operands.{Operands as CodeOperands}
use Rattle.checker.specs.declared.ops.Operands.TheVariants.{Bare, Value, Variable, Output, EventAndState, NoOp}
use Rattle.checker.specs.declared.ops.OpRule.{OpRule as CodeOpRule}

abbrev pub place_meant : CodePlace → Place
place_meant Condition = in_condition
place_meant Action = in_action
place_meant SendingAction = in_sending_action

abbrev pub effect_meant : CodeEffect → Effect
effect_meant Nothing = none
effect_meant Acts = acts
effect_meant Sends = sends

abbrev pub operands_meant : CodeOperands → Operands
operands_meant Bare = bare
operands_meant Value = a_value
operands_meant Variable = a_variable
operands_meant Output = an_output
operands_meant EventAndState = an_event_and_state
operands_meant NoOp = no_op

abbrev pub row_of : ℕ → ℕ → CodeEffect → CodeOperands → OpRule
row_of t g e o = rule t g (effect_meant e) (operands_meant o)

abbrev pub op_rule_of : CodeOpRule → OpRule
op_rule_of r = row_of r.takes r.gives r.effect r.operands

-- the number of what refused, and 0 where nothing did
abbrev pub refusal_number : {T : Type 0} → Result T Refusal → ℕ
refusal_number (Ok taken) = 0
refusal_number (Err r) = number_of r
