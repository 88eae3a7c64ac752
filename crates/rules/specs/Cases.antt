-- The worked cases: what the paper says of charts, images, steps and sessions. Expected numbers are derived from the paper.
-- Assumes nothing.
use Rattle.std.specs.Prelude.{Bool, true, false, ◌&&◌, List, [], ◌∷◌, ◌++◌, map, ℕ, ◌*◌, eqb, length, take, drop, replicate, set, ℤ, pos, negsuc}
use Prim.Native.String.{String}
use Rattle.rules.specs.Bytes.{Bytes, bytes_of, ascii, equals}
use Rattle.rules.specs.Lists.{below, all, keep}
use Rattle.rules.specs.Chart.{State, Segment, Chart, states, variables}
use Rattle.rules.specs.Image.{is_active, recorded, variable}
use Rattle.rules.specs.Bound.{W}
use Rattle.rules.specs.Calls.{Board, Answer, fresh_call, bound_call, step_call, item_bytes, observed}
use Rattle.rules.specs.Session.{session}
use Rattle.rules.specs.Charts.{none, chart_a, backtrack, dead_end, to_itself, shared, sends_first, beside, reckons, loop}

pub data Case : Type 0 where
  -- the bound call answers this refusal and bound
  bounds : Chart → ℕ → ℕ → Case
  -- with this byte at this place the chart has this refusal
  spoilt : Chart → ℕ → ℕ → ℕ → Case
  -- a segment's W
  weighs : Chart → Segment → ℕ → Case
  -- after these events on the fresh lift, an event with an allowance and that many trace bytes: refusal, units, items
  steps : Chart → List ℕ → ℕ → ℕ → ℕ → ℕ → ℕ → List ℕ → Case
  -- after these events: the active states, each state's recorded child, each variable's value
  stands : Chart → List ℕ → List State → List State → List ℤ → Case
  -- after these events, and with this byte at this place of the image, event 1 has this refusal
  imaged : Chart → List ℕ → ℕ → ℕ → ℕ → Case
  -- on this board, with a trace of this length: lift, event and allowance have this refusal
  boarded : Chart → Board → ℕ → ℕ → ℕ → ℕ → ℕ → Case
  -- the number that a call answers, and the bytes that it leaves
  leaves : Answer → ℕ → Board → Bytes → Case
  -- the session program writes this
  says : Bytes → String → Case

-- ── how a case is tried ──

unfoldable pub same_by : {A : Type 0} → (A → A → Bool) → List A → List A → Bool
same_by eq [] [] = true
same_by eq [] (y ∷ ys) = false
same_by eq (x ∷ xs) [] = false
same_by eq (x ∷ xs) (y ∷ ys) = eq x y && same_by eq xs ys

abbrev pub same : List ℕ → List ℕ → Bool
same xs ys = same_by eqb xs ys

-- bytes that a call is lent
unfoldable pub lent : ℕ → Bytes
lent n = replicate n 170

-- the board of one lift, fresh for the chart, after these events
unfoldable pub board_from : Chart → Board → List ℕ → Board
board_from c board [] = board
board_from c board (e ∷ es) = board_from c (step_call c board (lent 1024) 0 e 1000000).board es

unfoldable pub board_after : Chart → List ℕ → Board
board_after c es = board_from c (fresh_call c (lent 202) 0).board es

-- an answer is this refusal, units and items, and its trace these items over what was lent
unfoldable pub is_answer : Answer → ℕ → ℕ → ℕ → List ℕ → Bool
is_answer a n r u items =
    all
    (eqb a.refusal.number r ∷ eqb a.units u ∷ eqb a.items (length items)
    ∷ same a.trace (item_bytes items ++ drop (4 * length items) (lent n)) ∷ [])

unfoldable pub holds : Case → Bool
holds (bounds c r b) =
    let a = bound_call c in
    eqb a.refusal.number r && eqb a.bound b
holds (spoilt c i v r) = eqb (bound_call (set c i v)).refusal.number r
holds (weighs c t w) = eqb (W c t) w
holds (steps c es e allowance n r u items) =
    is_answer (step_call c (board_after c es) (lent n) 0 e allowance) n r u items
holds (stands c es active history values) =
    let im = board_after c es in
    all
    (same (keep (is_active im) (below 64)) active ∷ same (map (recorded im) (below (states c))) history
    ∷ same_by equals (map (variable im) (below (variables c))) values ∷ [])
holds (imaged c es i v r) =
    eqb (step_call c (set (board_after c es) i v) (lent 1024) 0 1 1000000).refusal.number r
holds (boarded c board n k e allowance r) = eqb (step_call c board (lent n) k e allowance).refusal.number r
holds (leaves a n board trace) =
    all (eqb (observed a).answer n ∷ same (observed a).board board ∷ same (observed a).trace trace ∷ [])
holds (says bytes text) = same (session bytes) (ascii text)

-- ── the cases of 'Sessions to check': those marked P, and the others ──

-- SE, the chart's length, the chart, an EV record for each event
unfoldable pub event_bytes : List ℕ → Bytes
event_bytes [] = []
event_bytes (e ∷ es) = ascii "EV" ++ (e ∷ event_bytes es)

unfoldable pub session_of : Chart → List ℕ → Bytes
session_of c es = ascii "SE" ++ bytes_of 2 (length c) ++ c ++ event_bytes es

-- P: A's second step with 6 units succeeds
unfoldable pub second_step : Case
second_step = steps chart_a (1 ∷ []) 1 6 1024 0 6 (196608 ∷ 262144 ∷ 131073 ∷ 327680 ∷ 65538 ∷ 393217 ∷ [])

-- P: the way given up keeps x at 1
unfoldable pub keeps_x : Case
keeps_x = stands backtrack (1 ∷ 1 ∷ []) (0 ∷ 3 ∷ []) (0 ∷ 0 ∷ 0 ∷ 0 ∷ []) (pos 1 ∷ [])

-- P: a dead end: the second is not tried, the during point is reached
unfoldable pub second_not_tried : Case
second_not_tried = steps dead_end (1 ∷ []) 1 1000000 1024 0 5 (196608 ∷ 262144 ∷ 196609 ∷ [])

-- P: W is 5
unfoldable pub weighs_five : Case
weighs_five = weighs shared 0 5

-- P: its own path is abandoned, 2 stays
unfoldable pub two_stays : Case
two_stays = stands (sends_first 2) (1 ∷ 1 ∷ []) (0 ∷ 2 ∷ []) (0 ∷ 0 ∷ 0 ∷ 0 ∷ []) []

unfoldable pub sessions_to_check : List Case
sessions_to_check =
    says (session_of chart_a (1 ∷ 1 ∷ 2 ∷ []))
    "0 25\n0 2 2 65536 65537\n0 6 6 196608 262144 131073 327680 65538 393217\n0 2 2 196608 196610\n"
    -- P: the second step with 5 units gives 16; 0 units gives 16
    ∷ second_step
    ∷ steps chart_a (1 ∷ []) 1 5 1024 16 0 []
    ∷ steps chart_a [] 1 0 1024 16 0 []
    ∷ steps chart_a (1 ∷ []) 1 0 1024 16 0 []
    -- P: event 0 and event 3 on A give 14; 1,000,000 is allowed, 1,000,001 gives 15
    ∷ steps chart_a (1 ∷ []) 0 6 1024 14 0 []
    ∷ steps chart_a (1 ∷ []) 3 6 1024 14 0 []
    ∷ steps chart_a (1 ∷ []) 1 1000000 1024 0 6 (196608 ∷ 262144 ∷ 131073 ∷ 327680 ∷ 65538 ∷ 393217 ∷ [])
    ∷ steps chart_a (1 ∷ []) 1 1000001 1024 15 0 []
    -- P: A with 83 bytes gives 4, with 11 gives 1, with none gives 1
    ∷ bounds (take 83 chart_a) 4 0
    ∷ bounds (take 11 chart_a) 1 0
    ∷ bounds [] 1 0
    -- and the transition actions of that way are dropped
    ∷ keeps_x
    ∷ steps backtrack (1 ∷ []) 1 1000000 1024 0 12 (196608 ∷ 262144 ∷ 262146 ∷ 131073 ∷ 327682 ∷ 65539 ∷ [])
    ∷ second_not_tried
    ∷ stands dead_end (1 ∷ 1 ∷ []) (0 ∷ 1 ∷ []) (0 ∷ 0 ∷ 0 ∷ 0 ∷ []) (pos 1 ∷ [])
    -- P: outer segment from 1 to 1: left, then entered
    ∷ steps to_itself (1 ∷ []) 1 1000000 1024 0 5 (196608 ∷ 262144 ∷ 131073 ∷ 327680 ∷ 65537 ∷ [])
    ∷ weighs_five
    ∷ two_stays
    ∷ steps (sends_first 2) (1 ∷ []) 1 1000000 1024 0 10
    (196608 ∷ 262144 ∷ 196608 ∷ 262145 ∷ 131073 ∷ 327681 ∷ 65538 ∷ [])
    -- 2 is run by the send, then by its turn
    ∷ steps (beside 2 0) (1 ∷ []) 1 1000000 1024 0 5 (196608 ∷ 196609 ∷ 196610 ∷ 196610 ∷ [])
    -- -2^31 by -1: quotient 17, remainder 0
    ∷ steps (reckons 6 2147483648 4294967295) (1 ∷ []) 1 1000000 1024 17 0 []
    ∷ stands (reckons 7 2147483648 4294967295) (1 ∷ 1 ∷ []) (0 ∷ 1 ∷ []) (0 ∷ 0 ∷ []) (pos 0 ∷ negsuc 0 ∷ [])
    -- a trace of 23 bytes holds five items; 24 bytes suffice
    ∷ steps chart_a (1 ∷ []) 1 1000000 23 20 0 []
    ∷ steps chart_a (1 ∷ []) 1 1000000 24 0 6 (196608 ∷ 262144 ∷ 131073 ∷ 327680 ∷ 65538 ∷ 393217 ∷ [])
    -- a junction looping on itself: 19, bound 22
    ∷ steps (loop none) (1 ∷ []) 1 1000000 1024 19 0 []
    ∷ bounds (loop none) 22 0
    ∷ []
