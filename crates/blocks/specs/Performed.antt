-- What an instruction or a block answers, as the rules have it. Assumes nothing.
use Rattle.std.specs.Prelude.{Result, Ok, Err}
use Rattle.rules.specs.Doing.{Now, Outcome, refused, went}
use Rattle.rules.specs.Block.{Stack, Ran, ran}
use Rattle.rules.specs.declared.refusals.Refusal.{Refusal}
use Rattle.doing.specs.Outcomes.{refusal_of}

-- an answer, with the stack and the rest that it leaves
abbrev pub ran_of : Result (Unit {0}) Refusal → Stack → Now → Outcome Ran
ran_of (Err r) st n = refused (refusal_of r)
ran_of (Ok u) st n = went (ran st) n
