-- Cases that tell a rule of the paper from one that it is easily taken for. Each is a law of its own in proofs/Apart.antt; the wrong
-- rules that are tried against them stand in must-fail and in docs/RULES.md. Expected numbers are derived from the paper. Assumes
-- nothing.
use Rattle.std.specs.Prelude.{List, [], ◌∷◌, ◌++◌, map, ℕ, replicate, pos}
use Rattle.rules.specs.Lists.{up_from}
use Rattle.rules.specs.Charts.{times, many_ways, beside_itself, round_itself, nested_beside, other_child, other_event, dead_behind, over_both, remembers, counts_round, two_round, alone_round, dead_then_inner, back_before, beside_the_way, to_its_child, itself_over_root, roots_first, given_up_over_root, acts_on_the_way, sends_round, sends_nine, sends_on_the_way, waits_across, second_first, two_branches, any_event_first, over_another, inner_beside, inner_upwards, three_levels, left_in_its_sweep, root_remembers, by_the_tree, faults_from}
use Rattle.rules.specs.Cases.{Case, bounds, steps, stands, imaged}

-- a dead end ends the whole search, not only the list of the junction before
unfoldable pub dead_end_behind : Case
dead_end_behind = steps dead_behind (1 ∷ []) 1 1000000 1024 0 4 (196608 ∷ 262144 ∷ 262145 ∷ 196609 ∷ [])

-- a junction whose segments all ask for another event is no dead end
unfoldable pub segments_of_another_event : Case
segments_of_another_event =
    steps other_event (1 ∷ []) 1 1000000 1024 0 9 (196608 ∷ 262144 ∷ 262146 ∷ 131073 ∷ 327682 ∷ 65539 ∷ [])

-- each junction of the path counts for the arena
unfoldable pub every_junction_counts : Case
every_junction_counts =
    steps over_both (1 ∷ []) 1 1000000 1024 0 10
    (196608 ∷ 196609 ∷ 262144 ∷ 262145 ∷ 262146 ∷ 131074 ∷ 131073 ∷ 327680 ∷ 327681 ∷ 327682 ∷ 65537 ∷ 65539 ∷ [])

-- source, target and arena are one state: its parent is the arena, whatever the path
unfoldable pub round_to_itself : Case
round_to_itself =
    steps round_itself (1 ∷ []) 1 1000000 1024 0 6
    (196608 ∷ 262144 ∷ 262145 ∷ 131073 ∷ 327680 ∷ 327681 ∷ 65537 ∷ [])

-- of an all-of arena every child is left and entered, and one whose turn comes then is run
unfoldable pub every_child_moves : Case
every_child_moves =
    steps beside_itself (1 ∷ []) 1 1000000 1024 0 8
    (196608 ∷ 262144 ∷ 131074 ∷ 131073 ∷ 327680 ∷ 65537 ∷ 65538 ∷ 196610 ∷ [])

-- of a target that keeps history the recorded child is entered: also where the target is the arena, which has just recorded it
unfoldable pub targets_record : Case
targets_record =
    steps remembers (1 ∷ 1 ∷ 2 ∷ []) 3 1000000 1024 0 6 (196608 ∷ 262146 ∷ 131076 ∷ 327682 ∷ 65537 ∷ 65539 ∷ [])

unfoldable pub arenas_record : Case
arenas_record =
    steps remembers (1 ∷ 1 ∷ []) 4 1000000 1024 0 7 (196608 ∷ 196609 ∷ 262147 ∷ 131075 ∷ 327683 ∷ 65539 ∷ [])

-- the child is run that is active after the inner segments
unfoldable pub child_after_inner : Case
child_after_inner =
    steps other_child (1 ∷ []) 1 1000000 1024 0 9
    (196608 ∷ 196609 ∷ 262144 ∷ 262145 ∷ 131074 ∷ 327681 ∷ 65539 ∷ 196611 ∷ [])

-- with eight sends open, one to an inactive state is nothing
unfoldable pub ninth_to_nobody : Case
ninth_to_nobody =
    steps nested_beside (1 ∷ []) 1 1000000 1024 0 95 (196608 ∷ times 8 (196609 ∷ 262144 ∷ []) ++ (196609 ∷ []))

-- a 129th segment that does not pass is no 19
unfoldable pub last_does_not_pass : Case
last_does_not_pass =
    steps counts_round (1 ∷ []) 1 1000000 1024 0 1023 (196608 ∷ 262144 ∷ replicate 127 262145 ++ (196609 ∷ []))

-- each of the second list, with all of the first behind it
unfoldable pub behind : List ℕ → List ℕ → List ℕ
behind ys [] = []
behind ys (x ∷ xs) = x ∷ ys ++ behind ys xs

-- 160 segments pass, on paths of four: three behind each of three behind each of three behind each of four
unfoldable pub many_ways_pass : Case
many_ways_pass =
    let lower = behind (up_from 262154 3) (up_from 262151 3) in
    let all = behind (behind lower (up_from 262148 3)) (up_from 262144 4) in
    steps many_ways (1 ∷ []) 1 1000000 1024 0 270 (196608 ∷ all ++ (196609 ∷ []))

-- after a dead end of the outer segments the inner ones are tried
unfoldable pub inner_after_dead_end : Case
inner_after_dead_end =
    steps dead_then_inner (1 ∷ []) 1 1000000 1024 0 6
    (196608 ∷ 262144 ∷ 196609 ∷ 262145 ∷ 131074 ∷ 327681 ∷ 65539 ∷ [])

-- the list before is that of the junction before, if there is one
unfoldable pub back_to_the_list_before : Case
back_to_the_list_before =
    steps back_before (1 ∷ []) 1 1000000 1024 0 8
    (196608 ∷ 262144 ∷ 262145 ∷ 262147 ∷ 131073 ∷ 327680 ∷ 327683 ∷ 65539 ∷ [])

-- beside the way to the target a record counts too
unfoldable pub siblings_record : Case
siblings_record =
    steps beside_the_way (1 ∷ 1 ∷ 2 ∷ []) 4 1000000 1024 0 10
    (196608 ∷ 262147 ∷ 131078 ∷ 327683 ∷ 65537 ∷ 65538 ∷ 65539 ∷ 393218 ∷ 65541 ∷ [])

-- a record that was followed stays
unfoldable pub record_stays : Case
record_stays = stands remembers (1 ∷ 1 ∷ 2 ∷ 3 ∷ []) (0 ∷ 1 ∷ 3 ∷ []) (0 ∷ 3 ∷ 0 ∷ 0 ∷ 0 ∷ []) []

-- from the outer edge to a state below the source, too, the source stays
unfoldable pub outer_to_its_child : Case
outer_to_its_child =
    steps to_its_child (1 ∷ []) 1 1000000 1024 0 5 (196608 ∷ 262144 ∷ 131074 ∷ 327680 ∷ 65539 ∷ [])

-- source and target are one state, the arena is another
unfoldable pub itself_over_the_root : Case
itself_over_the_root =
    steps itself_over_root (1 ∷ []) 1 1000000 1024 0 9
    (196608 ∷ 196609 ∷ 262144 ∷ 262145 ∷ 131074 ∷ 131073 ∷ 327680 ∷ 327681 ∷ 65537 ∷ 65538 ∷ [])

-- a junction counts for the arena that is not the last of the path
unfoldable pub higher_junction_first : Case
higher_junction_first =
    steps roots_first (1 ∷ []) 1 1000000 1024 0 10
    (196608 ∷ 196609 ∷ 262144 ∷ 262145 ∷ 262146 ∷ 131074 ∷ 131073 ∷ 327680 ∷ 327681 ∷ 327682 ∷ 65537 ∷ 65539 ∷ [])

-- one of a way given up does not
unfoldable pub way_given_up_over_the_root : Case
way_given_up_over_the_root =
    steps given_up_over_root (1 ∷ []) 1 1000000 1024 0 8
    (196608 ∷ 196609 ∷ 262144 ∷ 262146 ∷ 131074 ∷ 327682 ∷ 65539 ∷ [])

-- the item of a transition action stands before that action, and behind those of the segments before
unfoldable pub each_transition_by_itself : Case
each_transition_by_itself =
    steps acts_on_the_way (1 ∷ []) 1 1000000 1024 0 7
    (196608 ∷ 262144 ∷ 262145 ∷ 131073 ∷ 327680 ∷ 393217 ∷ 327681 ∷ 65538 ∷ [])

-- sends that are over are not open: nine in a row
unfoldable pub nine_in_a_row : Case
nine_in_a_row = steps sends_nine (1 ∷ []) 1 1000000 1024 0 21 (196608 ∷ 196609 ∷ replicate 10 196610)

-- the event of a send is current while its state is run, and then the one before is again
unfoldable pub event_after_send : Case
event_after_send =
    steps sends_on_the_way (1 ∷ []) 1 1000000 1024 0 10
    (196608 ∷ 196609 ∷ 262144 ∷ 196610 ∷ 262145 ∷ 131075 ∷ 327680 ∷ 327681 ∷ 65540 ∷ 196610 ∷ [])

-- a send leaves the block's stack alone
unfoldable pub stack_across_send : Case
stack_across_send = stands waits_across (1 ∷ 1 ∷ []) (0 ∷ 1 ∷ 2 ∷ []) (0 ∷ 0 ∷ 0 ∷ []) (pos 5 ∷ [])

-- the initial child is the field's, not the first
unfoldable pub initial_is_named : Case
initial_is_named = steps second_first [] 1 1000000 1024 0 2 (65536 ∷ 65538 ∷ [])

-- a child is left with all below it before the next is, and so entered
unfoldable pub branch_by_branch : Case
branch_by_branch =
    steps two_branches (1 ∷ []) 1 1000000 1024 0 13
    (196608 ∷ 262144 ∷ 131076 ∷ 131074 ∷ 131075 ∷ 131073 ∷ 327680 ∷ 65537 ∷ 65539 ∷ 65538 ∷ 65540 ∷ 196610 ∷ 196612 ∷ [])

-- segments go in table order, those of any event among the others
unfoldable pub any_event_in_order : Case
any_event_in_order =
    steps any_event_first (1 ∷ []) 1 1000000 1024 0 5 (196608 ∷ 262144 ∷ 131073 ∷ 327680 ∷ 65538 ∷ [])

-- a junction counts for the arena whose parent is not above the source
unfoldable pub junction_of_another : Case
junction_of_another =
    steps over_another (1 ∷ []) 1 1000000 1024 0 9
    (196608 ∷ 196609 ∷ 262144 ∷ 262145 ∷ 131074 ∷ 131073 ∷ 327680 ∷ 327681 ∷ 65537 ∷ 65539 ∷ [])

-- the arena of an inner segment is found as that of an outer one: to a state beside the source, and above it
unfoldable pub inner_to_one_beside : Case
inner_to_one_beside =
    steps inner_beside (1 ∷ []) 1 1000000 1024 0 5 (196608 ∷ 196609 ∷ 262144 ∷ 131073 ∷ 327680 ∷ 65538 ∷ [])

unfoldable pub inner_to_one_above : Case
inner_to_one_above =
    steps inner_upwards (1 ∷ []) 1 1000000 1024 0 6
    (196608 ∷ 196609 ∷ 196610 ∷ 262144 ∷ 131074 ∷ 327680 ∷ 65538 ∷ [])

-- initial and record are children, not states further below
unfoldable pub initial_below_a_child : Case
initial_below_a_child = bounds (three_levels 2 0) 6 0

unfoldable pub record_below_a_child : Case
record_below_a_child = imaged (three_levels 1 1) (1 ∷ []) 10 2 13

-- an all-of state that a child's segment leaves and enters goes on with the children whose turn comes
unfoldable pub sweep_goes_on : Case
sweep_goes_on =
    steps left_in_its_sweep (1 ∷ []) 1 1000000 1024 0 12
    (196608 ∷ 196609 ∷ 262144 ∷ 262145 ∷ 131075 ∷ 131074 ∷ 131073 ∷ 327680 ∷ 327681 ∷ 65537 ∷ 65538 ∷ 65539 ∷ 196611 ∷ [])

-- the root keeps history as any one-of state does
unfoldable pub roots_record : Case
roots_record = stands root_remembers (1 ∷ 1 ∷ []) (0 ∷ 2 ∷ []) (1 ∷ 0 ∷ 0 ∷ []) []

-- the way to the target is by parents, not by numbers
unfoldable pub way_by_parents : Case
way_by_parents =
    steps by_the_tree (1 ∷ []) 1 1000000 1024 0 6 (196608 ∷ 262144 ∷ 131077 ∷ 327680 ∷ 65537 ∷ 65539 ∷ [])

-- G has the transition actions of segments to junctions too
unfoldable pub bound_of_all_transitions : Case
bound_of_all_transitions = bounds acts_on_the_way 0 26

-- 21 before 22
unfoldable pub send_in_a_loop : Case
send_in_a_loop = bounds sends_round 21 0

-- of 1 to 11 the lowest
unfoldable pub faults_in_order : List Case
faults_in_order = map (λ k. bounds (faults_from k) k 0) (up_from 1 11) ++ (bounds (faults_from 12) 0 17 ∷ [])

-- 22: over more segments than one, and where no state leads
unfoldable pub loop_of_two : Case
loop_of_two = bounds two_round 22 0

unfoldable pub loop_apart : Case
loop_apart = bounds alone_round 22 0

unfoldable pub apart : List Case
apart =
    dead_end_behind ∷ segments_of_another_event ∷ every_junction_counts ∷ round_to_itself ∷ every_child_moves ∷ targets_record ∷ arenas_record
    ∷ child_after_inner ∷ ninth_to_nobody ∷ last_does_not_pass ∷ many_ways_pass ∷ inner_after_dead_end ∷ back_to_the_list_before ∷ siblings_record
    ∷ record_stays ∷ outer_to_its_child ∷ itself_over_the_root ∷ higher_junction_first ∷ way_given_up_over_the_root ∷ each_transition_by_itself
    ∷ nine_in_a_row ∷ event_after_send ∷ stack_across_send ∷ initial_is_named ∷ branch_by_branch ∷ any_event_in_order ∷ junction_of_another
    ∷ inner_to_one_beside ∷ inner_to_one_above ∷ initial_below_a_child ∷ record_below_a_child ∷ sweep_goes_on ∷ roots_record ∷ way_by_parents ∷ bound_of_all_transitions ∷ send_in_a_loop ∷ loop_of_two
    ∷ loop_apart ∷ faults_in_order
