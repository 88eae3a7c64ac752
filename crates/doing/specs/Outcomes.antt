-- What the code answers, as the rules have it. Assumes nothing.
use Rattle.std.specs.Prelude.{Result, Ok, Err}
use Rattle.rules.specs.Image.{Image}
use Rattle.rules.specs.Doing as rules
use Rattle.rules.specs.Doing.{because, Now, Outcome, refused, went}
use Rattle.rules.specs.Types.{number_of}
use Rattle.rules.specs.declared.refusals.Refusal.{Refusal}

abbrev pub refusal_of : Refusal → rules.Refusal
refusal_of r = because (number_of r)

-- an answer, with what it leaves
abbrev pub outcome_of : {A : Type 0} → Result A Refusal → Now → Outcome A
outcome_of (Err r) n = refused (refusal_of r)
outcome_of (Ok a) n = went a n

abbrev pub with_image : Image → Now → Now
with_image im n = record { image = im; units = n.units; room = n.room; trace = n.trace }
