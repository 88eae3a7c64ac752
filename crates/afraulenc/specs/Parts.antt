-- A step on one lift's own part of a board, and the number that tells an answer. Assumes nothing.
use Rattle.std.specs.Prelude.{ℕ, ◌+◌, ◌*◌, leb, Result, Ok, Err}
use Rattle.rules.specs.Bytes.{Bytes}
use Rattle.rules.specs.Lists.{within}
use Rattle.rules.specs.Chart.{Chart, events}
use Rattle.rules.specs.Accept.{◌unless◌next◌}
use Rattle.rules.specs.Image.{Image, accepted}
use Rattle.rules.specs.Doing.{most_units}
use Rattle.rules.specs.Run.{step}
use Rattle.rules.specs.Types.{number_of}
use Rattle.rules.specs.declared.refusals.Refusal.{Refusal}
use Rattle.rules.specs.Calls.{unless_refused, begin, step_answer, Observed, observed}
use Rattle.afraulenc.specs.declared.Went.{Went}

-- the number that tells a step that went well; and of any call: what f makes of its answer, or the refusal's number
abbrev pub packed_of : Went → ℕ
packed_of w = 256 * w.items + 131072 * w.units

abbrev pub told_of : {A : Type 0} → (A → ℕ) → Result A Refusal → ℕ
told_of f (Ok a) = f a
told_of f (Err r) = number_of r

-- the part for a board that has no other: lift 0's
unfoldable pub stepped_on : Chart → Image → Bytes → ℕ → ℕ → Observed
stepped_on c im trace e allowance = observed (step_answer im trace 0 allowance (step c e (begin im trace allowance)))

-- 13 to 15
unfoldable pub part_tests : Chart → Image → ℕ → ℕ → ℕ
part_tests c im e allowance =
    13 unless accepted im c next
    14 unless within 1 (events c) e next
    15 unless leb allowance most_units next 0

unfoldable pub part_stepped : Chart → Image → Bytes → ℕ → ℕ → Observed
part_stepped c im trace e allowance =
    observed
    (unless_refused (part_tests c im e allowance) im trace (step_answer im trace 0 allowance (step c e (begin im trace allowance))))
