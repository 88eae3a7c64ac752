-- More cases, for rules of the paper that the sessions to check leave open; and the list of all cases. Expected numbers are derived
-- from the paper. What was tried against the list: docs/DECISIONS.md, 43. Assumes nothing.
use Rattle.std.specs.Prelude.{List, [], ◌∷◌, ◌++◌, map, ℕ, ◌+◌, take, replicate, set, ℤ, pos, negsuc}
use Rattle.rules.specs.Bytes.{Bytes, ascii}
use Rattle.rules.specs.Lists.{up_from, down_from}
use Rattle.rules.specs.Chart.{Chart, state_at, junction_at, segment_at, variable_at, instruction_at}
use Rattle.rules.specs.Calls.{Board, step_call, fresh_call, bound_call}
use Rattle.rules.specs.Charts.{none, at, IN, chart_a, backtrack, sends_first, beside, reckons, loop, orders, inside, nested, hangs_up, deep, alone, pair, upwards, with_entry, with_during, with_exit, with_condition, with_condition_action, with_transition_action, unused, times, piles, sends_later, sends_both}
use Rattle.rules.specs.Cases.{Case, bounds, spoilt, steps, stands, imaged, boarded, leaves, says, lent, board_after, session_of, sessions_to_check}
use Rattle.rules.specs.ApartCases.{apart}

-- ── run, search, fire, leave, enter ──

unfoldable pub moves : List Case
moves =
    -- all-of children are entered in ascending number; the initial child of a one-of state
    steps orders [] 1 1000000 1024 0 6 (65536 ∷ 65537 ∷ 65538 ∷ 65539 ∷ 393218 ∷ 65540 ∷ [])
    -- each child of an all-of state is run; the arena keeps history and records the child that is left
    ∷ steps orders (1 ∷ []) 1 1000000 1024 0 10
    (196608 ∷ 196609 ∷ 196610 ∷ 196611 ∷ 262144 ∷ 131076 ∷ 327680 ∷ 65541 ∷ [])
    ∷ stands orders (1 ∷ 1 ∷ []) (0 ∷ 1 ∷ 2 ∷ 3 ∷ 5 ∷ []) (0 ∷ 0 ∷ 0 ∷ 4 ∷ 0 ∷ 0 ∷ 0 ∷ []) []
    -- leaving: highest number first, children before the exit action; then the transition action, then entering
    ∷ steps orders (1 ∷ 1 ∷ []) 2 1000000 1024 0 10
    (196608 ∷ 262145 ∷ 131077 ∷ 393217 ∷ 131075 ∷ 131074 ∷ 131073 ∷ 327681 ∷ 393219 ∷ 65542 ∷ [])
    ∷ stands orders (1 ∷ 1 ∷ 2 ∷ []) (0 ∷ 6 ∷ []) (0 ∷ 0 ∷ 0 ∷ 5 ∷ 0 ∷ 0 ∷ 0 ∷ []) []
    -- the recorded child is entered, unless another is on the way to the target
    ∷ steps orders (1 ∷ 1 ∷ 2 ∷ []) 3 1000000 1024 0 9
    (196608 ∷ 262146 ∷ 131078 ∷ 327682 ∷ 65537 ∷ 65538 ∷ 65539 ∷ 393218 ∷ 65541 ∷ [])
    ∷ steps orders (1 ∷ 1 ∷ 2 ∷ []) 4 1000000 1024 0 10
    (196608 ∷ 262147 ∷ 131078 ∷ 327683 ∷ 65537 ∷ 65538 ∷ 65539 ∷ 393218 ∷ 65540 ∷ [])
    -- 3 is inactive when its turn comes
    ∷ steps orders (1 ∷ []) 5 1000000 1024 0 11
    (196608 ∷ 196609 ∷ 262148 ∷ 131076 ∷ 393217 ∷ 131075 ∷ 131074 ∷ 131073 ∷ 327684 ∷ 65542 ∷ [])
    ∷ bounds orders 0 131
    -- the inner edge, after the during action: to a child the source stays, to itself it is left and entered
    ∷ steps inside (1 ∷ []) 1 1000000 1024 0 6 (196608 ∷ 196609 ∷ 393217 ∷ 262144 ∷ 131074 ∷ 327680 ∷ 65539 ∷ [])
    ∷ steps inside (1 ∷ 1 ∷ []) 2 1000000 1024 0 9
    (196608 ∷ 196609 ∷ 393217 ∷ 262145 ∷ 131075 ∷ 131073 ∷ 327681 ∷ 65537 ∷ 65538 ∷ [])
    -- to the parent: it stays, its initial child is entered
    ∷ steps inside (1 ∷ []) 3 1000000 1024 0 10
    (196608 ∷ 196609 ∷ 393217 ∷ 262146 ∷ 131074 ∷ 327682 ∷ 65538 ∷ [])
    -- a junction of the root's makes the root the arena; transition actions in path order
    ∷ steps inside (1 ∷ []) 4 1000000 1024 0 14
    (196608 ∷ 196609 ∷ 393217 ∷ 262147 ∷ 262148 ∷ 131074 ∷ 131073 ∷ 327683 ∷ 327684 ∷ 65537 ∷ 65539 ∷ [])
    -- after a dead end of the inner segments the children are run
    ∷ steps inside (1 ∷ []) 5 1000000 1024 0 9 (196608 ∷ 196609 ∷ 393217 ∷ 262149 ∷ 196610 ∷ [])
    ∷ bounds inside 0 43
    -- nine levels are entered, run, left
    ∷ steps (deep 7) [] 1 1000000 1024 0 9 (up_from 65536 9)
    ∷ steps (deep 7) (1 ∷ []) 1 1000000 1024 0 10 (up_from 196608 9)
    ∷ steps (deep 7) (1 ∷ []) 2 1000000 1024 0 19
    (196608 ∷ 262144 ∷ map (λ s. 131072 + s) (down_from 8) ++ (327680 ∷ up_from 65537 8))
    ∷ bounds (deep 7) 0 172
    ∷ bounds (deep 8) 6 0
    -- any value of the condition but 0 passes
    ∷ steps (with_condition (at 0 1) 1 (IN 0 0 65535)) (1 ∷ []) 1 1000000 1024 0 6
    (196608 ∷ 262144 ∷ 131073 ∷ 327680 ∷ 65537 ∷ [])
    ∷ steps (with_condition (at 0 1) 1 (IN 0 0 0)) (1 ∷ []) 1 1000000 1024 0 4 (196608 ∷ 196609 ∷ [])
    -- with another event the condition is not performed
    ∷ steps (set (with_condition (at 0 1) 1 (IN 0 0 1)) 7 2) (1 ∷ []) 2 1000000 1024 0 3 (196608 ∷ 196609 ∷ [])
    ∷ bounds backtrack 0 44
    ∷ steps (alone 0 0 0) [] 1 1000000 1024 0 1 (65536 ∷ [])
    ∷ steps (alone 0 0 0) (1 ∷ []) 1 1000000 1024 0 1 (196608 ∷ [])
    ∷ []

-- ── sends ──

unfoldable pub sends : List Case
sends =
    -- left and entered again counts as active: the path goes on
    steps (sends_first 1) (1 ∷ []) 1 1000000 1024 0 12
    (196608 ∷ 262144 ∷ 196608 ∷ 262145 ∷ 131073 ∷ 327681 ∷ 65537 ∷ 131073 ∷ 327680 ∷ 65539 ∷ [])
    -- a during state that is gone: the rest of the block, and the inner edge, are abandoned
    ∷ steps hangs_up (1 ∷ []) 1 1000000 1024 0 9
    (196608 ∷ 196609 ∷ 196608 ∷ 262144 ∷ 131073 ∷ 327680 ∷ 65538 ∷ [])
    -- on a junction's segment the owner is the source state, not the junction's parent
    ∷ steps sends_later (1 ∷ []) 1 1000000 1024 0 11
    (196608 ∷ 262144 ∷ 262145 ∷ 196608 ∷ 262146 ∷ 131073 ∷ 327682 ∷ 65538 ∷ [])
    -- an owner that is gone abandons its own run only: 1, whose send this was, goes on
    ∷ steps sends_both (1 ∷ []) 1 1000000 1024 0 16
    (196608 ∷ 196609 ∷ 196610 ∷ 262144 ∷ 196610 ∷ 262145 ∷ 131075 ∷ 327681 ∷ 65540 ∷ 393217 ∷ 196610 ∷ 196612 ∷ [])
    -- to an inactive state: nothing
    ∷ steps (beside 1 1) (1 ∷ []) 1 1000000 1024 0 3 (196608 ∷ 196609 ∷ [])
    -- eight sends may be open
    ∷ steps (nested 8) (1 ∷ []) 1 1000000 1024 0 86 (196608 ∷ times 8 (196609 ∷ 262144 ∷ []) ++ (196609 ∷ []))
    ∷ stands (nested 8) (1 ∷ 1 ∷ []) (0 ∷ 1 ∷ []) (0 ∷ 0 ∷ []) (pos 8 ∷ [])
    ∷ steps (nested 9) (1 ∷ []) 1 1000000 1024 18 0 []
    ∷ bounds (nested 8) 21 0
    ∷ []

-- ── values ──

-- x and y as VA has them; after the during action y has this value, and x this
unfoldable pub gives : ℕ → ℕ → ℕ → ℤ → ℤ → Case
gives op x y y' z = stands (reckons op x y) (1 ∷ 1 ∷ []) (0 ∷ 1 ∷ []) (0 ∷ 0 ∷ []) (z ∷ y' ∷ [])

unfoldable pub overflows : ℕ → ℕ → ℕ → Case
overflows op x y = steps (reckons op x y) (1 ∷ []) 1 1000000 1024 17 0 []

-- after the entry action of these instructions, x is this
unfoldable pub enters : ℕ → Bytes → ℤ → Case
enters n instructions z =
    stands (with_entry (at 0 n) n instructions) (1 ∷ []) (0 ∷ 1 ∷ []) (0 ∷ 0 ∷ []) (z ∷ [])

unfoldable pub values : List Case
values =
    gives 3 7 4294967294 (negsuc 1) (pos 5)
    ∷ gives 3 2147483647 4294967295 (negsuc 0) (pos 2147483646)
    ∷ overflows 3 2147483647 1
    ∷ overflows 3 2147483648 4294967295
    ∷ gives 4 7 9 (pos 9) (negsuc 1)
    ∷ gives 4 4294967295 2147483647 (pos 2147483647) (negsuc 2147483647)
    ∷ overflows 4 2147483648 1
    ∷ overflows 4 0 2147483648
    ∷ gives 5 65536 4294934528 (negsuc 32767) (negsuc 2147483647)
    ∷ overflows 5 65536 32768
    ∷ gives 6 4294967289 2 (pos 2) (negsuc 2)
    ∷ gives 6 7 4294967294 (negsuc 1) (negsuc 2)
    ∷ overflows 6 7 0
    ∷ gives 7 4294967289 2 (pos 2) (negsuc 0)
    ∷ gives 7 7 4294967294 (negsuc 1) (pos 1)
    ∷ overflows 7 7 0
    ∷ gives 8 4294967295 0 (pos 0) (pos 1)
    ∷ gives 8 0 4294967295 (negsuc 0) (pos 0)
    ∷ gives 8 3 3 (pos 3) (pos 0)
    ∷ gives 9 4294967293 4294967293 (negsuc 2) (pos 1)
    ∷ gives 9 1 4294967295 (negsuc 0) (pos 0)
    ∷ enters 3 (IN 0 0 0 ++ IN 10 0 0 ++ IN 2 0 0) (pos 1)
    ∷ enters 3 (IN 0 0 5 ++ IN 10 0 0 ++ IN 2 0 0) (pos 0)
    ∷ enters 2 (IN 0 0 65534 ++ IN 2 0 0) (negsuc 1)
    ∷ enters 2 (IN 0 0 32767 ++ IN 2 0 0) (pos 32767)
    ∷ steps (reckons 3 1 2) (1 ∷ []) 1 1000000 1024 0 6 (196608 ∷ 196609 ∷ [])
    ∷ []

-- ── units, room, the longest path ──

unfoldable pub divides_by_zero : Chart
divides_by_zero = with_condition (at 0 3) 3 (IN 0 0 1 ++ IN 0 0 0 ++ IN 6 0 0)

unfoldable pub limits : List Case
limits =
    -- the unit comes before the item
    steps chart_a [] 1 0 0 16 0 []
    ∷ steps chart_a [] 1 1 0 20 0 []
    ∷ steps chart_a [] 1 2 8 0 2 (65536 ∷ 65537 ∷ [])
    ∷ steps chart_a [] 1 2 7 20 0 []
    ∷ steps chart_a (1 ∷ []) 1 5 23 16 0 []
    -- a leaving is paid before its children are left
    ∷ steps orders (1 ∷ 1 ∷ []) 2 5 8 16 0 []
    ∷ steps orders (1 ∷ 1 ∷ []) 2 6 8 20 0 []
    -- a segment and each instruction of its condition are paid before they are tried; here the third divides by 0
    ∷ steps divides_by_zero (1 ∷ []) 1 5 1024 16 0 []
    ∷ steps divides_by_zero (1 ∷ []) 1 6 1024 17 0 []
    -- a ninth send has its unit, then 18
    ∷ steps (nested 9) (1 ∷ []) 1 90 1024 16 0 []
    ∷ steps (nested 9) (1 ∷ []) 1 91 1024 18 0 []
    -- 128 segments pass; the 129th has its unit, and 19 comes before its item: all 256 are taken by then
    ∷ steps (loop none) (1 ∷ []) 1 258 1024 19 0 []
    ∷ steps (loop none) (1 ∷ []) 1 257 1024 16 0 []
    ∷ steps (loop none) (1 ∷ []) 1 258 1023 20 0 []
    -- a 257th item has no room, however much is lent
    ∷ steps (loop (at 0 1)) (1 ∷ []) 1 1000000 1100 20 0 []
    ∷ []

-- ── refusals of a chart ──

-- state s or segment t of `backtrack` with this byte at this place of its record
unfoldable pub at_state : ℕ → ℕ → ℕ → ℕ → Case
at_state s i v r = spoilt backtrack (state_at backtrack s + i) v r

unfoldable pub at_segment : ℕ → ℕ → ℕ → ℕ → Case
at_segment t i v r = spoilt backtrack (segment_at backtrack t + i) v r

unfoldable pub refused_charts : List Case
refused_charts =
    bounds (take 12 chart_a) 4 0
    ∷ bounds (chart_a ++ (0 ∷ [])) 4 0
    ∷ bounds (replicate 12 0) 2 0
    ∷ spoilt chart_a 0 72 2
    ∷ spoilt chart_a 1 67 2
    -- 3: counts; at the limit the length decides
    ∷ spoilt chart_a 2 0 3
    ∷ spoilt chart_a 2 65 3
    ∷ spoilt chart_a 2 64 4
    ∷ spoilt chart_a 3 65 3
    ∷ spoilt chart_a 3 64 4
    ∷ bounds (set (set chart_a 4 1) 5 1) 3 0
    ∷ bounds (set (set chart_a 4 0) 5 1) 4 0
    ∷ spoilt chart_a 6 33 3
    ∷ spoilt chart_a 6 32 4
    ∷ spoilt chart_a 7 0 3
    ∷ spoilt chart_a 7 33 3
    ∷ bounds (set chart_a 7 32) 0 25
    ∷ spoilt chart_a 8 33 3
    ∷ bounds (set chart_a 8 32) 0 25
    ∷ bounds (set (set chart_a 10 1) 11 4) 3 0
    ∷ bounds (set (set chart_a 10 0) 11 4) 4 0
    -- 5: marks and zero bytes
    ∷ spoilt backtrack 9 1 5
    ∷ at_state 0 0 0 5
    ∷ at_state 3 1 83 5
    ∷ at_state 3 15 1 5
    ∷ spoilt backtrack (junction_at backtrack 0) 0 5
    ∷ spoilt backtrack (junction_at backtrack 0 + 1) 0 5
    ∷ spoilt backtrack (junction_at backtrack 0 + 3) 1 5
    ∷ at_segment 0 0 0 5
    ∷ at_segment 2 1 0 5
    ∷ at_segment 2 7 1 5
    ∷ at_segment 1 8 1 5
    ∷ spoilt backtrack (variable_at backtrack 0) 0 5
    ∷ spoilt backtrack (variable_at backtrack 0 + 1) 0 5
    ∷ spoilt backtrack (instruction_at backtrack 4) 0 5
    ∷ spoilt backtrack (instruction_at backtrack 4 + 1) 0 5
    -- 6: states, and a junction's parent
    ∷ bounds (alone 0 0 0) 0 3
    ∷ bounds (alone 1 0 0) 6 0
    ∷ bounds (alone 2 0 0) 6 0
    ∷ bounds (alone 0 1 0) 6 0
    ∷ bounds (alone 0 0 1) 6 0
    ∷ bounds (pair 1 1 0) 0 10
    ∷ bounds (pair 1 1 1) 0 10
    ∷ bounds (pair 2 0 0) 0 10
    ∷ bounds (pair 0 0 0) 6 0
    ∷ bounds (pair 3 0 0) 6 0
    ∷ bounds (pair 1 0 0) 6 0
    ∷ bounds (pair 1 2 0) 6 0
    ∷ bounds (pair 1 1 2) 6 0
    ∷ bounds (pair 2 1 0) 6 0
    ∷ bounds (pair 2 0 1) 6 0
    ∷ spoilt (pair 2 0 0) 14 1 6
    ∷ bounds upwards 6 0
    ∷ spoilt backtrack (junction_at backtrack 0 + 2) 4 6
    ∷ bounds (set backtrack (junction_at backtrack 0 + 2) 3) 0 44
    -- 7: segments
    ∷ at_segment 0 2 3 7
    ∷ at_segment 0 3 0 7
    ∷ at_segment 0 3 4 7
    ∷ spoilt (set backtrack (segment_at backtrack 0 + 2) 1) (segment_at backtrack 0 + 3) 0 7
    ∷ at_segment 1 3 1 7
    ∷ at_segment 0 4 2 7
    ∷ at_segment 0 5 1 7
    ∷ at_segment 1 5 0 7
    ∷ at_segment 1 5 4 7
    ∷ at_segment 0 6 2 7
    -- 8: blocks
    ∷ bounds (with_entry (at 0 2) 1 (IN 11 1 0)) 8 0
    ∷ bounds (with_during (at 1 1) 1 (IN 11 1 0)) 8 0
    ∷ bounds (with_exit (at 0 2) 1 (IN 11 1 0)) 8 0
    ∷ bounds (with_condition (at 0 2) 1 (IN 0 0 1)) 8 0
    ∷ bounds (with_condition_action (at 0 2) 1 (IN 11 1 0)) 8 0
    ∷ bounds (with_transition_action (at 0 2) 1 (IN 11 1 0)) 8 0
    ∷ bounds (with_transition_action (at 1 0) 1 (IN 11 1 0)) 8 0
    ∷ spoilt chart_a (state_at chart_a 0 + 8) 1 8
    ∷ spoilt chart_a (state_at chart_a 0 + 11) 1 8
    ∷ spoilt chart_a (state_at chart_a 0 + 14) 1 8
    -- 9: every record, used or not
    ∷ bounds (unused 13 0 0) 9 0
    ∷ bounds (unused 255 0 0) 9 0
    ∷ bounds (unused 0 0 65535) 0 11
    ∷ bounds (unused 0 1 0) 9 0
    ∷ bounds (unused 1 1 0) 9 0
    ∷ bounds (unused 1 0 1) 9 0
    ∷ bounds (unused 2 1 0) 9 0
    ∷ bounds (unused 2 0 1) 9 0
    ∷ bounds (unused 11 0 0) 9 0
    ∷ bounds (unused 11 2 0) 9 0
    ∷ bounds (unused 11 1 1) 9 0
    ∷ bounds (unused 12 0 0) 9 0
    ∷ bounds (unused 12 2 0) 9 0
    ∷ bounds (unused 12 1 2) 9 0
    ∷ bounds (unused 12 1 65535) 9 0
    ∷ bounds (unused 12 1 1) 21 0
    ∷ map (λ op. bounds (unused op 1 0) 9 0) (up_from 3 8) ++ map (λ op. bounds (unused op 0 1) 9 0) (up_from 3 8)
    -- 10: the stack
    ++ (bounds (piles 16) 0 75
    ∷ bounds (piles 17) 10 0
    ∷ bounds (with_entry (at 0 1) 1 (IN 0 0 1)) 10 0
    ∷ bounds (with_during (at 0 1) 1 (IN 2 0 0)) 10 0
    ∷ bounds (with_exit (at 0 2) 2 (IN 0 0 1 ++ IN 3 0 0)) 10 0
    ∷ bounds (with_condition (at 0 2) 2 (IN 0 0 1 ++ IN 0 0 1)) 10 0
    ∷ bounds (with_condition (at 0 2) 2 (IN 0 0 1 ++ IN 2 0 0)) 10 0
    ∷ bounds (with_condition_action (at 0 1) 1 (IN 10 0 0)) 10 0
    ∷ bounds (with_transition_action (at 0 1) 1 (IN 1 0 0)) 10 0
    -- 11: store, raise and send in a condition; send in entry, exit and transition actions
    ∷ bounds (with_condition (at 0 3) 3 (IN 0 0 1 ++ IN 2 0 0 ++ IN 0 0 1)) 11 0
    ∷ bounds (with_condition (at 0 2) 2 (IN 11 1 0 ++ IN 0 0 1)) 11 0
    ∷ bounds (with_condition (at 0 2) 2 (IN 12 1 1 ++ IN 0 0 1)) 11 0
    ∷ bounds (with_entry (at 0 1) 1 (IN 12 1 1)) 11 0
    ∷ bounds (with_exit (at 0 1) 1 (IN 12 1 1)) 11 0
    ∷ bounds (with_transition_action (at 0 1) 1 (IN 12 1 1)) 11 0
    ∷ bounds (with_during (at 0 1) 1 (IN 12 1 1)) 21 0
    ∷ bounds (with_condition_action (at 0 1) 1 (IN 12 1 1)) 21 0
    ∷ [])

-- ── images and boards ──

unfoldable pub images : List Case
images =
    -- of 202 bytes the mark and the places beyond the chart's counts
    imaged orders (1 ∷ []) 0 0 13
    ∷ imaged orders (1 ∷ []) 1 0 13
    ∷ imaged orders (1 ∷ []) 2 159 13
    ∷ imaged orders (1 ∷ []) 9 128 13
    ∷ imaged orders (1 ∷ []) 17 1 13
    ∷ imaged orders (1 ∷ []) 73 1 13
    ∷ imaged orders (1 ∷ []) 74 1 13
    ∷ imaged (reckons 3 0 0) (1 ∷ []) 77 1 0
    ∷ imaged (reckons 3 0 0) (1 ∷ []) 82 1 13
    ∷ imaged (reckons 3 0 0) (1 ∷ []) 201 1 13
    -- history is 0, or a child where history is kept
    ∷ imaged orders (1 ∷ []) 13 4 0
    ∷ imaged orders (1 ∷ []) 13 5 0
    ∷ imaged orders (1 ∷ []) 13 2 13
    ∷ imaged orders (1 ∷ []) 10 1 13
    -- the shape: 0, 1, 2, 3, 4 are active; 5 for 4 would do
    ∷ imaged orders (1 ∷ []) 2 47 0
    ∷ imaged orders (1 ∷ []) 2 30 13
    ∷ imaged orders (1 ∷ []) 2 63 13
    ∷ imaged orders (1 ∷ []) 2 15 13
    ∷ imaged orders (1 ∷ []) 2 27 13
    ∷ imaged orders (1 ∷ []) 2 95 13
    ∷ imaged orders (1 ∷ []) 2 81 13
    -- not started: no history either, any variables
    ∷ imaged orders (1 ∷ []) 2 0 0
    ∷ imaged orders [] 13 4 13
    ∷ imaged (reckons 3 0 0) [] 74 9 0
    -- 12 to 15, in order, after the chart's
    ∷ boarded (take 83 chart_a) [] 1024 64 0 1000001 4
    ∷ boarded chart_a (lent 201) 1024 0 0 1000001 12
    ∷ boarded chart_a (lent 403) 1024 1 1 6 12
    ∷ boarded chart_a (lent 404) 1024 1 1 6 13
    ∷ boarded chart_a (lent 12928) 1024 63 1 6 13
    ∷ boarded chart_a (lent 13130) 1024 64 1 6 12
    ∷ boarded chart_a (lent 202) 1024 0 0 1000001 13
    ∷ boarded chart_a (board_after chart_a []) 1024 0 0 1000001 14
    ∷ boarded chart_a (board_after chart_a []) 0 0 1 1000001 15
    ∷ []

-- a fresh lift of chart A between other bytes, and the same once started
unfoldable pub between : Bytes → Board
between image = lent 202 ++ image ++ lent 1

unfoldable pub fresh_a : Bytes
fresh_a = ascii "IM" ++ replicate 200 0

unfoldable pub started_a : Bytes
started_a = ascii "IM" ++ (3 ∷ replicate 199 0)

unfoldable pub answers : List Case
answers =
    leaves (fresh_call chart_a (lent 405) 1) 0 (between fresh_a) []
    ∷ leaves (fresh_call (reckons 3 258 4294967295) (lent 202) 0) 0
    (ascii "IM" ++ replicate 72 0 ++ (2 ∷ 1 ∷ 0 ∷ 0 ∷ 255 ∷ 255 ∷ 255 ∷ 255 ∷ replicate 120 0)) []
    ∷ leaves (fresh_call chart_a (lent 201) 0) 12 (lent 201) []
    ∷ leaves (fresh_call (take 83 chart_a) (lent 201) 0) 4 (lent 201) []
    ∷ leaves (bound_call chart_a) 6400 [] []
    ∷ leaves (bound_call (loop none)) 22 [] []
    ∷ leaves (step_call chart_a (between fresh_a) (lent 9) 1 2 5) 262656
    (between started_a) (0 ∷ 0 ∷ 1 ∷ 0 ∷ 1 ∷ 0 ∷ 1 ∷ 0 ∷ 170 ∷ [])
    ∷ leaves (step_call chart_a (between fresh_a) (lent 9) 1 2 1) 16 (between fresh_a) (lent 9)
    ∷ leaves (step_call chart_a (between fresh_a) (lent 9) 1 3 1) 14 (between fresh_a) (lent 9)
    ∷ []

-- ── the session program ──

unfoldable pub sessions : List Case
sessions =
    says [] "bad session\n"
    ∷ says (ascii "SE") "bad session\n"
    ∷ says (set (session_of chart_a []) 0 69) "bad session\n"
    ∷ says (take 87 (session_of chart_a [])) "bad session\n"
    ∷ says (take 88 (session_of chart_a [])) "0 25\n"
    -- a wrong or cut EV: that line, last
    ∷ says (session_of chart_a (1 ∷ []) ++ ascii "EV") "0 25\n0 2 2 65536 65537\nbad session\n"
    ∷ says (session_of chart_a (1 ∷ []) ++ ascii "E") "0 25\n0 2 2 65536 65537\nbad session\n"
    ∷ says (set (session_of chart_a (1 ∷ 1 ∷ [])) 89 69) "0 25\nbad session\n"
    -- a refused chart ends the session; a refused bound or event does not
    ∷ says (session_of [] (1 ∷ [])) "1 0\n"
    ∷ says (session_of (take 83 chart_a) (1 ∷ [])) "4 0\n"
    ∷ says (session_of (with_entry (at 0 1) 1 (IN 12 1 1)) (1 ∷ [])) "11 0\n"
    ∷ says (session_of (sends_first 2) (1 ∷ 3 ∷ 1 ∷ []))
    "21 0\n0 2 2 65536 65537\n14 0 0\n0 10 7 196608 262144 196608 262145 131073 327681 65538\n"
    ∷ says (session_of chart_a [] ++ replicate 16296 0) "0 25\nbad session\n"
    ∷ says (session_of chart_a [] ++ replicate 16297 0) "bad session\n"
    ∷ []

-- ── all cases ──

unfoldable pub cases : List Case
cases = sessions_to_check ++ moves ++ sends ++ values ++ limits ++ refused_charts ++ images ++ answers ++ sessions ++ apart
