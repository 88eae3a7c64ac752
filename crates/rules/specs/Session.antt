-- The session program: what it writes, of what it reads. Assumes nothing.
use Rattle.std.specs.Prelude.{Bool, ◌||◌, not, List, [], ◌∷◌, ◌++◌, ℕ, zero, suc, ◌+◌, ◌/◌, ◌%◌, ltb, length, take, drop, replicate}
use Rattle.rules.specs.Bytes.{Bytes, field, ascii}
use Rattle.rules.specs.Lists.{when◌then◌else◌, within}
use Rattle.rules.specs.Chart.{Chart}
use Rattle.rules.specs.Accept.{marked}
use Rattle.rules.specs.Image.{image_size}
use Rattle.rules.specs.Doing.{most_units, item_size}
use Rattle.rules.specs.Calls.{Board, Answer, fresh_call, bound_call, step_call}

-- a number in decimal digits, at most d of them
unfoldable pub decimal : ℕ → ℕ → Bytes
decimal zero n = []
decimal (suc d) n = (when ltb n 10 then [] else decimal d (n / 10)) ++ ((48 + n % 10) ∷ [])

-- numbers with a space between, and a line end
unfoldable pub line : List ℕ → Bytes
line [] = ascii "\n"
line (n ∷ []) = decimal 20 n ++ ascii "\n"
line (n ∷ m ∷ ns) = decimal 20 n ++ ascii " " ++ line (m ∷ ns)

unfoldable pub bad_session : Bytes
bad_session = ascii "bad session\n"

-- the first n items of a trace
unfoldable pub items_in : ℕ → Bytes → List ℕ
items_in zero bytes = []
items_in (suc n) bytes = field item_size bytes 0 ∷ items_in n (drop item_size bytes)

unfoldable pub step_line : Answer → Bytes
step_line a = line (a.refusal.number ∷ a.units ∷ a.items ∷ items_in a.items a.trace)

-- a line for each EV record; each step is lent the trace bytes that the one before left
unfoldable pub event_lines : Chart → Board → Bytes → Bytes → Bytes
event_lines c board trace [] = []
event_lines c board trace (m ∷ []) = bad_session
event_lines c board trace (m ∷ n ∷ []) = bad_session
event_lines c board trace (m ∷ n ∷ e ∷ rest) =
    let a = step_call c board trace 0 e most_units in
    let lines = step_line a ++ event_lines c a.board a.trace rest in
    (when marked (m ∷ n ∷ []) "EV" 0 then lines else bad_session)

-- the bound's line; unless that is 1 to 11, the lift is made fresh and the events follow
unfoldable pub chart_lines : Chart → Bytes → Bytes
chart_lines c rest =
    let b = bound_call c in
    let lines = event_lines c (fresh_call c (replicate image_size 0) 0).board (replicate 1024 0) rest in
    line (b.refusal.number ∷ b.bound ∷ []) ++ (when within 1 11 b.refusal.number then [] else lines)

-- over 16,384 bytes, no SE, or no complete chart part
unfoldable pub is_bad : Bytes → Bool
is_bad s = ltb 16384 (length s) || not (marked s "SE" 0) || ltb (length s) (4 + field 2 s 2)

unfoldable pub session : Bytes → Bytes
session s = when is_bad s then bad_session else chart_lines (take (field 2 s 2) (drop 4 s)) (drop (4 + field 2 s 2) s)
