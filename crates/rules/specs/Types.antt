-- The code's types that carry limits: what a maker makes, and the paper's number for it. Assumes nothing.
use Rattle.std.specs.Prelude.{Bool, Option, Some, None, ℕ, ◌*◌}
use Rattle.rules.specs.Lists.{when◌then◌else◌}
use Rattle.rules.specs.Image.{image_size}
use Rattle.rules.specs.Accept.{counts_right}
use Rattle.rules.specs.Doing.{state_entered, state_left, during_point, segment_passed, transition_performed, output_raised, item_of}
use Rattle.rules.specs.Calls.{has_part}
use Rattle.rules.specs.declared.headers.Header.{Header}
use Rattle.rules.specs.declared.images.Image.{Image}
use Rattle.rules.specs.declared.items.Item.{Item}
use Rattle.rules.specs.declared.items.Item.TheVariants.{Entered, Left, During, Passed, Transition, Raised}
use Rattle.rules.specs.declared.refusals.Refusal.{Refusal}
use Rattle.rules.specs.declared.refusals.Refusal.TheVariants as refusal

abbrev pub fits_of : Header → Bool
fits_of h =
    counts_right h.states h.junctions h.segments h.variables h.events h.outputs h.instructions

abbrev pub made_of : Header → Option Header
made_of h = when fits_of h then Some h else None

-- the paper's number where there is none
unfoldable pub made_number : Option Header → ℕ
made_number (Some h) = 0
made_number None = 3

abbrev pub part_of : ℕ → ℕ → Option Image
part_of k n = when has_part n k then Some (record { at = image_size * k }) else None

unfoldable pub part_number : Option Image → ℕ
part_number (Some im) = 0
part_number None = 12

-- an item as it stands in a trace
abbrev pub word_of : Item → ℕ
word_of (Entered s) = item_of state_entered s.0
word_of (Left s) = item_of state_left s.0
word_of (During s) = item_of during_point s.0
word_of (Passed t) = item_of segment_passed t.0
word_of (Transition t) = item_of transition_performed t.0
word_of (Raised o) = item_of output_raised o

-- the paper's number of a refusal
abbrev pub number_of : Refusal → ℕ
number_of refusal.ShortChart = 1
number_of refusal.ChartMark = 2
number_of refusal.Count = 3
number_of refusal.ChartLength = 4
number_of refusal.Record = 5
number_of refusal.State = 6
number_of refusal.Segment = 7
number_of refusal.Block = 8
number_of refusal.Instruction = 9
number_of refusal.StackUse = 10
number_of refusal.Barred = 11
number_of refusal.NoPart = 12
number_of refusal.Image = 13
number_of refusal.Event = 14
number_of refusal.Allowance = 15
number_of refusal.NoUnit = 16
number_of refusal.Arithmetic = 17
number_of refusal.NinthSend = 18
number_of refusal.LongPath = 19
number_of refusal.NoRoom = 20
number_of refusal.Sends = 21
number_of refusal.Loop = 22
number_of refusal.BoundTooLarge = 23
