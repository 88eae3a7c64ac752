-- Charts for the cases, written by their records. Assumes nothing.
use Rattle.std.specs.Prelude.{[], ◌∷◌, ◌++◌, ℕ, zero, suc, ◌+◌, leb, take, set}
use Rattle.rules.specs.Bytes.{Bytes, bytes_of, ascii}
use Rattle.rules.specs.Lists.{when◌then◌else◌}
use Rattle.rules.specs.Chart.{Chart, Block, state_at, junction_at, segment_at, instruction_at}

-- ── records ──

unfoldable pub block_bytes : Block → Bytes
block_bytes k = bytes_of 2 k.start ++ (k.count ∷ [])

abbrev pub none : Block
none = record { start = 0; count = 0 }

-- n instructions from s on
abbrev pub at : ℕ → ℕ → Block
at s n = record { start = s; count = n }

-- states, junctions, segments, variables, events, outputs, instructions
unfoldable pub CH : ℕ → ℕ → ℕ → ℕ → ℕ → ℕ → ℕ → Bytes
CH s j t v e o i = ascii "CH" ++ (s ∷ j ∷ bytes_of 2 t ++ (v ∷ e ∷ o ∷ 0 ∷ bytes_of 2 i))

-- parent, kind, initial, history; entry, during, exit
unfoldable pub ST : ℕ → ℕ → ℕ → ℕ → Block → Block → Block → Bytes
ST p k i h en du ex = ascii "ST" ++ (p ∷ k ∷ i ∷ h ∷ block_bytes en ++ block_bytes du ++ block_bytes ex ++ (0 ∷ []))

-- the same without blocks
unfoldable pub plain : ℕ → ℕ → ℕ → ℕ → Bytes
plain p k i h = ST p k i h none none none

unfoldable pub leaf : ℕ → Bytes
leaf p = plain p 0 0 0

-- parent
unfoldable pub JN : ℕ → Bytes
JN p = ascii "JN" ++ (p ∷ 0 ∷ [])

-- source kind, source, destination kind, destination, event; condition, condition action, transition action
unfoldable pub TR : ℕ → ℕ → ℕ → ℕ → ℕ → Block → Block → Block → Bytes
TR sk s dk d e co ca ta =
    ascii "TR" ++ (sk ∷ s ∷ dk ∷ d ∷ e ∷ 0 ∷ 0 ∷ block_bytes co ++ block_bytes ca ++ block_bytes ta)

-- the same without blocks
unfoldable pub bare : ℕ → ℕ → ℕ → ℕ → ℕ → Bytes
bare sk s dk d e = TR sk s dk d e none none none

-- initial value, as an unsigned number
unfoldable pub VA : ℕ → Bytes
VA v = ascii "VA" ++ bytes_of 4 v

-- op, a, b as an unsigned number
unfoldable pub IN : ℕ → ℕ → ℕ → Bytes
IN o a b = ascii "IN" ++ (o ∷ a ∷ bytes_of 2 b)

-- ── the charts of 'Sessions to check' ──

unfoldable pub chart_a : Chart
chart_a =
    CH 3 0 1 0 2 1 1 ++ plain 0 1 1 0 ++ leaf 0 ++ ST 0 0 0 0 (at 0 1) none none
    ++ bare 0 1 0 2 1 ++ IN 11 1 0

-- a two-segment list: the first sets x to 1 and reaches a junction whose only way on asks x = 2; the second reaches 3
unfoldable pub backtrack : Chart
backtrack =
    CH 4 1 3 1 1 0 5 ++ plain 0 1 1 0 ++ leaf 0 ++ leaf 0 ++ leaf 0 ++ JN 0
    ++ TR 0 1 1 0 1 none (at 0 2) none ++ TR 2 0 0 2 0 (at 2 3) none none ++ bare 0 1 0 3 1 ++ VA 0
    ++ IN 0 0 1 ++ IN 2 0 0 ++ IN 1 0 0 ++ IN 0 0 2 ++ IN 9 0 0

-- the same with a dead-end junction
unfoldable pub dead_end : Chart
dead_end =
    CH 4 1 2 1 1 0 2 ++ plain 0 1 1 0 ++ leaf 0 ++ leaf 0 ++ leaf 0 ++ JN 0
    ++ TR 0 1 1 0 1 none (at 0 2) none ++ bare 0 1 0 3 1 ++ VA 0 ++ IN 0 0 1 ++ IN 2 0 0

unfoldable pub to_itself : Chart
to_itself = CH 2 0 1 0 1 0 0 ++ plain 0 1 1 0 ++ leaf 0 ++ bare 0 1 0 1 1

-- state to junction, that junction to the next by two segments, the next to a state
unfoldable pub shared : Chart
shared =
    CH 3 2 4 0 1 0 0 ++ plain 0 1 1 0 ++ leaf 0 ++ leaf 0 ++ JN 0 ++ JN 0
    ++ bare 0 1 1 0 1 ++ bare 2 0 1 1 0 ++ bare 2 0 1 1 0 ++ bare 2 1 0 2 0

-- on event 1, a condition action in 1 sends event 2 to the root, on which 1 goes to t; its own path goes to 3
unfoldable pub sends_first : ℕ → Chart
sends_first t =
    CH 4 0 2 0 2 0 1 ++ plain 0 1 1 0 ++ leaf 0 ++ leaf 0 ++ leaf 0
    ++ TR 0 1 0 3 1 none (at 0 1) none ++ bare 0 1 0 t 2 ++ IN 12 2 0

-- during of 1 sends event 1 to 2; the root is all-of (kind 2, initial 0) or one-of (kind 1, initial 1)
unfoldable pub beside : ℕ → ℕ → Chart
beside kind initial =
    CH 3 0 0 0 1 0 1 ++ plain 0 kind initial 0 ++ ST 0 0 0 0 none (at 0 1) none ++ leaf 0 ++ IN 12 1 2

-- during of 1: x by y with the op, into x
unfoldable pub reckons : ℕ → ℕ → ℕ → Chart
reckons op x y =
    CH 2 0 0 2 1 0 4 ++ plain 0 1 1 0 ++ ST 0 0 0 0 none (at 0 4) none ++ VA x ++ VA y
    ++ IN 1 0 0 ++ IN 1 1 0 ++ IN op 0 0 ++ IN 2 0 0

-- a junction looping on itself, a raise in the condition action of its segment; first is that of the segment to it
unfoldable pub loop : Block → Chart
loop first =
    CH 2 1 2 0 1 1 1 ++ plain 0 1 1 0 ++ leaf 0 ++ JN 0
    ++ TR 0 1 1 0 1 none first none ++ TR 2 0 1 0 0 none (at 0 1) none ++ IN 11 1 0

-- ── charts for the other rules ──

-- 1 is all-of: 2, and 3 that keeps history of 4 and 5; beside it 6. Entry of 3 raises 2, exit of 3 raises 1,
-- the transition action from 1 to 6 raises 3
unfoldable pub orders : Chart
orders =
    CH 7 0 5 0 5 3 3 ++ plain 0 1 1 0 ++ plain 0 2 0 0 ++ leaf 1 ++ ST 1 1 4 1 (at 0 1) none (at 1 1) ++ leaf 3 ++ leaf 3 ++ leaf 0
    ++ bare 0 4 0 5 1 ++ TR 0 1 0 6 2 none none (at 2 1) ++ bare 0 6 0 1 3 ++ bare 0 6 0 4 4 ++ bare 0 2 0 6 5
    ++ IN 11 2 0 ++ IN 11 1 0 ++ IN 11 3 0

-- 1 has 2 and 3 and a during action that raises 1. On events 1, 2 and 5 its inner edge leads to 3, to itself and to a
-- dead end; on event 3 state 2 leads to 1, on event 4 over a junction of the root's to 3
unfoldable pub inside : Chart
inside =
    CH 4 2 6 0 5 1 1 ++ plain 0 1 1 0 ++ ST 0 1 2 0 none (at 0 1) none ++ leaf 1 ++ leaf 1 ++ JN 0 ++ JN 1
    ++ bare 1 1 0 3 1 ++ bare 1 1 0 1 2 ++ bare 0 2 0 1 3 ++ bare 0 2 1 0 4 ++ bare 2 0 0 3 0 ++ bare 1 1 1 1 5 ++ IN 11 1 0

-- while x is below n the inner edge of 1 adds 1 to x, sends event 1 to 1 and comes to a dead end
unfoldable pub nested : ℕ → Chart
nested n =
    CH 2 1 1 1 1 0 8 ++ plain 0 1 1 0 ++ leaf 0 ++ JN 0 ++ TR 1 1 1 0 0 (at 0 3) (at 3 5) none ++ VA 0
    ++ IN 1 0 0 ++ IN 0 0 n ++ IN 8 0 0 ++ IN 1 0 0 ++ IN 0 0 1 ++ IN 3 0 0 ++ IN 2 0 0 ++ IN 12 1 1

-- during of 1 sends event 2 to the root, on which 1 goes to 2, and would then raise 1 and take the inner edge to 1
unfoldable pub hangs_up : Chart
hangs_up =
    CH 3 0 2 0 2 1 2 ++ plain 0 1 1 0 ++ ST 0 0 0 0 none (at 0 2) none ++ leaf 0
    ++ bare 0 1 0 2 2 ++ bare 1 1 0 1 0 ++ IN 12 2 0 ++ IN 11 1 0

-- on event 1 the way from 1 goes over a junction to 3; there a condition action sends event 2 to the root, on which 1
-- goes to 2
unfoldable pub sends_later : Chart
sends_later =
    CH 4 1 3 0 2 0 1 ++ plain 0 1 1 0 ++ leaf 0 ++ leaf 0 ++ leaf 0 ++ JN 0
    ++ bare 0 1 1 0 1 ++ TR 2 0 0 3 0 none (at 0 1) none ++ bare 0 1 0 2 2 ++ IN 12 2 0

-- during of 1 sends event 2 to 2 and then raises 1. On event 2 a condition action in 3, below 2, sends event 3 to 2, on
-- which 3 goes to 4
unfoldable pub sends_both : Chart
sends_both =
    CH 5 0 2 0 3 1 3 ++ plain 0 2 0 0 ++ ST 0 0 0 0 none (at 0 2) none ++ plain 0 1 3 0 ++ leaf 2 ++ leaf 2
    ++ TR 0 3 0 4 2 none (at 2 1) none ++ bare 0 3 0 4 3 ++ IN 12 2 2 ++ IN 11 1 0 ++ IN 12 3 2

-- 1 and 2 beside each other; 1 leads to itself
unfoldable pub beside_itself : Chart
beside_itself = CH 3 0 1 0 1 0 0 ++ plain 0 2 0 0 ++ leaf 0 ++ leaf 0 ++ bare 0 1 0 1 1

-- 1 leads to itself over a junction of its own
unfoldable pub round_itself : Chart
round_itself = CH 2 1 2 0 1 0 0 ++ plain 0 1 1 0 ++ leaf 0 ++ JN 1 ++ bare 0 1 1 0 1 ++ bare 2 0 0 1 0

-- `nested 8`, where the during action of 1 sends to 2, which is inactive
unfoldable pub nested_beside : Chart
nested_beside =
    CH 3 1 1 1 1 0 9 ++ plain 0 1 1 0 ++ ST 0 0 0 0 none (at 8 1) none ++ leaf 0 ++ JN 0
    ++ TR 1 1 1 0 0 (at 0 3) (at 3 5) none ++ VA 0
    ++ IN 1 0 0 ++ IN 0 0 8 ++ IN 8 0 0 ++ IN 1 0 0 ++ IN 0 0 1 ++ IN 3 0 0 ++ IN 2 0 0 ++ IN 12 1 1 ++ IN 12 1 2

-- on event 1 the inner edge of 1 sends event 2 to its child 2, on which 2 goes to 3, and comes to a dead end
unfoldable pub other_child : Chart
other_child =
    CH 4 1 2 0 2 0 1 ++ plain 0 1 1 0 ++ plain 0 1 2 0 ++ leaf 1 ++ leaf 1 ++ JN 1
    ++ TR 1 1 1 0 1 none (at 0 1) none ++ bare 0 2 0 3 2 ++ IN 12 2 2

-- `backtrack`, where the junction's way on asks for event 2
unfoldable pub other_event : Chart
other_event = set (set backtrack 7 2) (segment_at backtrack 1 + 6) 2

-- on event 1 over a junction to a dead end, behind which the junction has a way to 2; beside it a way to 3
unfoldable pub dead_behind : Chart
dead_behind =
    CH 4 2 4 0 1 0 0 ++ plain 0 1 1 0 ++ leaf 0 ++ leaf 0 ++ leaf 0 ++ JN 0 ++ JN 0
    ++ bare 0 1 1 0 1 ++ bare 2 0 1 1 0 ++ bare 2 0 0 2 0 ++ bare 0 1 0 3 1

-- from 2 to 3, both below 1, over a junction of 1's and then one of the root's
unfoldable pub over_both : Chart
over_both =
    CH 4 2 3 0 1 0 0 ++ plain 0 1 1 0 ++ plain 0 1 2 0 ++ leaf 1 ++ leaf 1 ++ JN 1 ++ JN 0
    ++ bare 0 2 1 0 1 ++ bare 2 0 1 1 0 ++ bare 2 1 0 3 0

-- 1 keeps history of 2 and 3, beside it 4. On event 1 state 2 goes to 3, on event 2 state 1 to 4, on event 3 state 4 to 1, on
-- event 4 state 3 to 1
unfoldable pub remembers : Chart
remembers =
    CH 5 0 4 0 4 0 0 ++ plain 0 1 1 0 ++ plain 0 1 2 1 ++ leaf 1 ++ leaf 1 ++ leaf 0
    ++ bare 0 2 0 3 1 ++ bare 0 1 0 4 2 ++ bare 0 4 0 1 3 ++ bare 0 3 0 1 4

-- a junction leads to itself while x is below 127, and adds 1 to x
unfoldable pub counts_round : Chart
counts_round =
    CH 2 1 2 1 1 0 7 ++ plain 0 1 1 0 ++ leaf 0 ++ JN 0 ++ bare 0 1 1 0 1 ++ TR 2 0 1 0 0 (at 0 3) (at 3 4) none ++ VA 0
    ++ IN 1 0 0 ++ IN 0 0 127 ++ IN 8 0 0 ++ IN 1 0 0 ++ IN 0 0 1 ++ IN 3 0 0 ++ IN 2 0 0

-- two junctions that lead to each other; one that leads to itself, and no state to it
unfoldable pub two_round : Chart
two_round =
    CH 2 2 3 0 1 0 0 ++ plain 0 1 1 0 ++ leaf 0 ++ JN 0 ++ JN 0 ++ bare 0 1 1 0 1 ++ bare 2 0 1 1 0 ++ bare 2 1 1 0 0

unfoldable pub alone_round : Chart
alone_round = CH 2 1 1 0 1 0 0 ++ plain 0 1 1 0 ++ leaf 0 ++ JN 0 ++ bare 2 0 1 0 0

-- on event 1 the outer edge of 1 comes to a dead end, and its inner edge leads to its child 3
unfoldable pub dead_then_inner : Chart
dead_then_inner =
    CH 4 1 2 0 1 0 0 ++ plain 0 1 1 0 ++ plain 0 1 2 0 ++ leaf 1 ++ leaf 1 ++ JN 1 ++ bare 0 1 1 0 1 ++ bare 1 1 0 3 1

-- on event 1 over a junction to another, whose way to 2 asks for event 2; the first has a way to 3, and 1 itself one to 2
unfoldable pub back_before : Chart
back_before =
    CH 4 2 5 0 2 0 0 ++ plain 0 1 1 0 ++ leaf 0 ++ leaf 0 ++ leaf 0 ++ JN 0 ++ JN 0
    ++ bare 0 1 1 0 1 ++ bare 2 0 1 1 0 ++ bare 2 1 0 2 2 ++ bare 2 0 0 3 0 ++ bare 0 1 0 2 1

-- `orders`, where on event 4 state 6 leads to 2, beside which 3 keeps history
unfoldable pub beside_the_way : Chart
beside_the_way = set orders (segment_at orders 3 + 5) 2

-- `inside`, where on event 1 it is the outer edge of 1 that leads to its child 3
unfoldable pub to_its_child : Chart
to_its_child = set inside (segment_at inside 0 + 2) 0

-- 2, below 1, leads to itself over a junction of the root's
unfoldable pub itself_over_root : Chart
itself_over_root =
    CH 3 1 2 0 1 0 0 ++ plain 0 1 1 0 ++ plain 0 1 2 0 ++ leaf 1 ++ JN 0 ++ bare 0 2 1 0 1 ++ bare 2 0 0 2 0

-- `over_both` with the root's junction first
unfoldable pub roots_first : Chart
roots_first = set (set over_both (junction_at over_both 0 + 2) 0) (junction_at over_both 1 + 2) 1

-- from 2 to 3, both below 1, after a way over a junction of the root's, which asks for event 2
unfoldable pub given_up_over_root : Chart
given_up_over_root =
    CH 4 1 3 0 2 0 0 ++ plain 0 1 1 0 ++ plain 0 1 2 0 ++ leaf 1 ++ leaf 1 ++ JN 0
    ++ bare 0 2 1 0 1 ++ bare 2 0 0 3 2 ++ bare 0 2 0 3 1

-- from 1 over a junction to 2; the transition action of the first segment raises 1
unfoldable pub acts_on_the_way : Chart
acts_on_the_way =
    CH 3 1 2 0 1 1 1 ++ plain 0 1 1 0 ++ leaf 0 ++ leaf 0 ++ JN 0 ++ TR 0 1 1 0 1 none none (at 0 1) ++ bare 2 0 0 2 0 ++ IN 11 1 0

-- `loop` with a send in its condition action
unfoldable pub sends_round : Chart
sends_round = set (loop none) (instruction_at (loop none) 0 + 2) 12

-- d + 1 states from s + 1 on, each the only child of the one before; the last is a leaf
unfoldable pub chain : ℕ → ℕ → Bytes
chain zero s = leaf s
chain (suc d) s = plain s 1 (s + 2) 0 ++ chain d (s + 1)

-- the root and d + 1 levels below it; on event 2 state 1 leads to itself
unfoldable pub deep : ℕ → Chart
deep d = CH (d + 2) 0 1 0 2 0 0 ++ plain 0 1 1 0 ++ chain d 0 ++ bare 0 1 0 1 2

-- a root alone, and a root with a leaf: kind, initial and history of the root
unfoldable pub alone : ℕ → ℕ → ℕ → Chart
alone kind initial history = CH 1 0 0 0 1 0 0 ++ plain 0 kind initial history

unfoldable pub pair : ℕ → ℕ → ℕ → Chart
pair kind initial history = CH 2 0 0 0 1 0 0 ++ plain 0 kind initial history ++ leaf 0

-- state 1 is the child of 2
unfoldable pub upwards : Chart
upwards = CH 3 0 0 0 1 0 0 ++ plain 0 2 0 0 ++ leaf 2 ++ plain 0 2 0 0

-- four segments from 1, then three from junction to junction thrice; the last junction's way on asks for event 2
unfoldable pub thrice : ℕ → ℕ → Bytes
thrice i j = bare 2 i 1 j 0 ++ bare 2 i 1 j 0 ++ bare 2 i 1 j 0

unfoldable pub many_ways : Chart
many_ways =
    CH 2 4 14 0 2 0 0 ++ plain 0 1 1 0 ++ leaf 0 ++ JN 0 ++ JN 0 ++ JN 0 ++ JN 0
    ++ bare 0 1 1 0 1 ++ bare 0 1 1 0 1 ++ bare 0 1 1 0 1 ++ bare 0 1 1 0 1
    ++ thrice 0 1 ++ thrice 1 2 ++ thrice 2 3 ++ bare 2 3 0 1 2

-- entry, during and exit of 1; condition, condition action and transition action of its segment to itself on event 1;
-- one variable, one output, and n instructions
unfoldable pub blocks : Block → Block → Block → Block → Block → Block → ℕ → Bytes → Chart
blocks en du ex co ca ta n instructions =
    CH 2 0 1 1 1 1 n ++ plain 0 1 1 0 ++ ST 0 0 0 0 en du ex ++ TR 0 1 0 1 1 co ca ta ++ VA 0 ++ instructions

-- the same with one block
unfoldable pub with_entry : Block → ℕ → Bytes → Chart
with_entry k n is = blocks k none none none none none n is

unfoldable pub with_during : Block → ℕ → Bytes → Chart
with_during k n is = blocks none k none none none none n is

unfoldable pub with_exit : Block → ℕ → Bytes → Chart
with_exit k n is = blocks none none k none none none n is

unfoldable pub with_condition : Block → ℕ → Bytes → Chart
with_condition k n is = blocks none none none k none none n is

unfoldable pub with_condition_action : Block → ℕ → Bytes → Chart
with_condition_action k n is = blocks none none none none k none n is

unfoldable pub with_transition_action : Block → ℕ → Bytes → Chart
with_transition_action k n is = blocks none none none none none k n is

-- one instruction, in no block
unfoldable pub unused : ℕ → ℕ → ℕ → Chart
unused op a b = with_entry none 1 (IN op a b)

-- n records
unfoldable pub times : ℕ → Bytes → Bytes
times zero r = []
times (suc n) r = r ++ times n r

-- 1 and 2 beside each other; during of 1 sends nine times to 2
unfoldable pub sends_nine : Chart
sends_nine = CH 3 0 0 0 1 0 9 ++ plain 0 2 0 0 ++ ST 0 0 0 0 none (at 0 9) none ++ leaf 0 ++ times 9 (IN 12 1 2)

-- 1, with 3 and 4, and 2 beside each other. On event 1 the way from 3 sends event 2 to 2, and goes over a junction to 4 on event 1
unfoldable pub sends_on_the_way : Chart
sends_on_the_way =
    CH 5 1 2 0 2 0 1 ++ plain 0 2 0 0 ++ plain 0 1 3 0 ++ leaf 0 ++ leaf 1 ++ leaf 1 ++ JN 1
    ++ TR 0 3 1 0 1 none (at 0 1) none ++ bare 2 0 0 4 1 ++ IN 12 2 2

-- during of 1 has 5 on the stack while it sends to 2, beside it, and stores it then in x
unfoldable pub waits_across : Chart
waits_across =
    CH 3 0 0 1 1 0 3 ++ plain 0 2 0 0 ++ ST 0 0 0 0 none (at 0 3) none ++ leaf 0 ++ VA 0
    ++ IN 0 0 5 ++ IN 12 1 2 ++ IN 2 0 0

-- the root's initial child is 2 of 1 and 2
unfoldable pub second_first : Chart
second_first = CH 3 0 0 0 1 0 0 ++ plain 0 1 2 0 ++ leaf 0 ++ leaf 0

-- 1, with 3, and 2, with 4, beside each other; 1 leads to itself
unfoldable pub two_branches : Chart
two_branches =
    CH 5 0 1 0 1 0 0 ++ plain 0 2 0 0 ++ plain 0 1 3 0 ++ plain 0 1 4 0 ++ leaf 1 ++ leaf 2 ++ bare 0 1 0 1 1

-- 1 leads to 2 on any event, and behind that to 3 on event 1
unfoldable pub any_event_first : Chart
any_event_first =
    CH 4 0 2 0 1 0 0 ++ plain 0 1 1 0 ++ leaf 0 ++ leaf 0 ++ leaf 0 ++ bare 0 1 0 2 0 ++ bare 0 1 0 3 1

-- from 2 to 3, both below 1, over a junction of 4's, which is beside 1
unfoldable pub over_another : Chart
over_another =
    CH 5 1 2 0 1 0 0 ++ plain 0 1 1 0 ++ plain 0 1 2 0 ++ leaf 1 ++ leaf 1 ++ leaf 0 ++ JN 4
    ++ bare 0 2 1 0 1 ++ bare 2 0 0 3 0

-- the inner edge of 1, a leaf, leads to 2; that of 2, a leaf below 1, to 1
unfoldable pub inner_beside : Chart
inner_beside = CH 3 0 1 0 1 0 0 ++ plain 0 1 1 0 ++ leaf 0 ++ leaf 0 ++ bare 1 1 0 2 1

unfoldable pub inner_upwards : Chart
inner_upwards = CH 3 0 1 0 1 0 0 ++ plain 0 1 1 0 ++ plain 0 1 2 0 ++ leaf 1 ++ bare 1 2 0 1 1

-- the root over 1 over 2: with this initial child and history of the root
unfoldable pub three_levels : ℕ → ℕ → Chart
three_levels initial history = CH 3 0 0 0 1 0 0 ++ plain 0 1 initial history ++ plain 0 1 2 0 ++ leaf 1

-- 1 is all-of, with 2 and 3; 2 leads over a junction of the root's to 1
unfoldable pub left_in_its_sweep : Chart
left_in_its_sweep =
    CH 4 1 2 0 1 0 0 ++ plain 0 1 1 0 ++ plain 0 2 0 0 ++ leaf 1 ++ leaf 1 ++ JN 0 ++ bare 0 2 1 0 1 ++ bare 2 0 0 1 0

-- the root keeps history of 1 and 2; 1 leads to 2
unfoldable pub root_remembers : Chart
root_remembers = CH 3 0 1 0 1 0 0 ++ plain 0 1 1 1 ++ leaf 0 ++ leaf 0 ++ bare 0 1 0 2 1

-- 1 over 3, 2 over 4, and 5, which leads to 3: that is below 1, and its number is larger than 2
unfoldable pub by_the_tree : Chart
by_the_tree =
    CH 6 0 1 0 1 0 0 ++ plain 0 1 5 0 ++ plain 0 1 3 0 ++ plain 0 1 4 0 ++ leaf 1 ++ leaf 2 ++ leaf 0 ++ bare 0 5 0 3 1

-- entry, exit and a segment of 1, and an instruction in no block
unfoldable pub faultless : Chart
faultless =
    blocks (at 0 1) none (at 1 2) none none none 4 (IN 11 1 0 ++ IN 1 0 0 ++ IN 2 0 0 ++ IN 11 1 0)

-- that chart with every fault from number k on: entry of 1 sends (11), its exit leaves a value (10), an instruction has no op (9), its
-- during action is empty with a start (8), the segment's event does not exist (7), a leaf keeps history (6), a zero byte is not zero
-- (5), a byte is too many (4), there are 33 outputs (3), the mark is wrong (2), the chart is short (1)
unfoldable pub faults_from : ℕ → Chart
faults_from k =
    let fault : ℕ → ℕ → ℕ → Chart → Chart = λ n i v c. when leb k n then set c i v else c in
    let sound = fault 11 (instruction_at faultless 0 + 2) 12 (fault 10 (state_at faultless 1 + 14) 1 faultless) in
    let wrong = fault 9 (instruction_at faultless 3 + 2) 13 (fault 8 (state_at faultless 1 + 9) 1 sound) in
    let worse = fault 7 (segment_at faultless 0 + 6) 2 (fault 6 (state_at faultless 1 + 5) 1 (fault 5 (state_at faultless 1 + 15) 1 wrong)) in
    let worst = fault 3 8 33 (fault 2 0 0 (when leb k 4 then worse ++ (0 ∷ []) else worse)) in
    (when leb k 1 then take 11 worst else worst)

-- n pushes, then n stores, as an entry action
unfoldable pub piles : ℕ → Chart
piles n = with_entry (at 0 (n + n)) (n + n) (times n (IN 0 0 1) ++ times n (IN 2 0 0))
