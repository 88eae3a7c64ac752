-- What the session program's functions leave: the text of a line, and what its calls leave of a lift. Assumes nothing.
use Rattle.std.specs.declared.option.Option.{Option}
use Rattle.std.specs.Prelude.{Bool, true, ◌&&◌, List, [], ◌∷◌, ◌++◌, ℕ, ◌+◌, ◌*◌, ◌≡◌, leb, length}
use Rattle.std.specs.Io.KnownBytes.{Appends}
use Rattle.rules.specs.Bytes.{Bytes, ascii}
use Rattle.rules.specs.Chart.{Chart}
use Rattle.rules.specs.Accept.{marked}
use Rattle.rules.specs.Lists.{when◌then◌else◌, within}
use Rattle.rules.specs.Doing.{most_units}
use Rattle.rules.specs.Calls.{Board, Answer, fresh_call, bound_call, step_call}
use Rattle.rules.specs.Session.{decimal, line, step_line, event_lines}

-- the bytes of the longest line: a refusal, units, a count and 256 items, of 20 digits and a space or the line's end each
abbrev pub longest : ℕ
longest = (3 + 256) * (20 + 1)

-- a space and a number, for each number
unfoldable pub spaced : List ℕ → Bytes
spaced [] = []
spaced (n ∷ ns) = ascii " " ++ decimal 20 n ++ spaced ns

-- the chart's own line
abbrev pub bound_line : Chart → Bytes
bound_line c = line ((bound_call c).refusal.number ∷ (bound_call c).bound ∷ [])

-- a step's line, and what the step left
pub record Told : Type 0 where
  pub said : Bytes
  pub board : Board
  pub trace : Bytes

abbrev pub told : Answer → Told
told a = record { said = step_line a; board = a.board; trace = a.trace }

-- an event's record comes next, whole
abbrev pub starts_with_event : Bytes → Bool
starts_with_event r = leb 3 (length r) && marked r "EV" 0

-- a lift's board, the trace that its steps are lent, and how many lines were said of them
pub record Lent : Type 0 where
  pub board : Board
  pub trace : Bytes
  pub lines : ℕ

-- what the events leave: a step and a line for each record, up to one that is none, of which another line is said; k were before
unfoldable pub after_events : Chart → Board → Bytes → ℕ → Bytes → Lent
after_events c board trace k [] = record { board = board; trace = trace; lines = k }
after_events c board trace k (m ∷ []) = record { board = board; trace = trace; lines = k + 1 }
after_events c board trace k (m ∷ n ∷ []) = record { board = board; trace = trace; lines = k + 1 }
after_events c board trace k (m ∷ n ∷ e ∷ rest) =
    let a = step_call c board trace 0 e most_units in
    let goes = after_events c a.board a.trace (k + 1) rest in
    (when marked (m ∷ n ∷ []) "EV" 0 then goes else record { board = board; trace = trace; lines = k + 1 })

-- what a chart and its events leave: unless the chart is refused, its lift is made fresh and the events follow
unfoldable pub after_chart : Chart → Board → Bytes → Bytes → Lent
after_chart c board trace events =
    let goes = after_events c (fresh_call c board 0).board trace 0 events in
    (when within 1 11 (bound_call c).refusal.number then record { board = board; trace = trace; lines = 0 } else goes)

-- what a chart and its events say, the calls being lent that board and that trace
unfoldable pub chart_text : Chart → Board → Bytes → Bytes → Bytes
chart_text c board trace events =
    let lines = event_lines c (fresh_call c board 0).board trace events in
    bound_line c ++ (when within 1 11 (bound_call c).refusal.number then [] else lines)

-- what takes the texts: whether it has taken all of each, and what it holds, where that is known
pub record Taken : Type 0 where
  pub whole : Bool
  pub contents : Option Bytes

-- it has taken all of each text, and so it had before, and holds another text behind what it held
abbrev pub Adds : Taken → Taken → Bytes → Type 0
Adds before after text = after.whole ≡ true → (before.whole ≡ true) × Appends before.contents after.contents text
