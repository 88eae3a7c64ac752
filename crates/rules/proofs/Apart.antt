-- The cases that tell a rule from one that it is easily taken for, each by itself, and five of the paper's own: a wrong rule is refused
-- here at its own law. Assumes nothing.
use mathlib.Core.Path.{◌≡◌, refl}
use mathlib.Core.Bool.{true}
use Rattle.rules.specs.Lists.{every}
use Rattle.rules.specs.Cases.{holds, second_step, keeps_x, second_not_tried, weighs_five, two_stays}
use Rattle.rules.specs.ApartCases.{apart, dead_end_behind, segments_of_another_event, every_junction_counts, round_to_itself, every_child_moves, targets_record, arenas_record, child_after_inner, ninth_to_nobody, last_does_not_pass, many_ways_pass, inner_after_dead_end, back_to_the_list_before, siblings_record, record_stays, outer_to_its_child, itself_over_the_root, higher_junction_first, way_given_up_over_the_root, each_transition_by_itself, nine_in_a_row, event_after_send, stack_across_send, initial_is_named, branch_by_branch, any_event_in_order, junction_of_another, inner_to_one_beside, inner_to_one_above, initial_below_a_child, record_below_a_child, sweep_goes_on, roots_record, way_by_parents, bound_of_all_transitions, send_in_a_loop, loop_of_two, loop_apart, faults_in_order}
use Rattle.rules.proofs.Opened.{opened}

pub second-step : holds second_step ≡ true
unfolding opened
second-step = refl

pub keeps-x : holds keeps_x ≡ true
unfolding opened
keeps-x = refl

pub second-not-tried : holds second_not_tried ≡ true
unfolding opened
second-not-tried = refl

pub weighs-five : holds weighs_five ≡ true
unfolding opened
weighs-five = refl

pub two-stays : holds two_stays ≡ true
unfolding opened
two-stays = refl

pub dead-end-behind : holds dead_end_behind ≡ true
unfolding opened
dead-end-behind = refl

pub segments-of-another-event : holds segments_of_another_event ≡ true
unfolding opened
segments-of-another-event = refl

pub every-junction-counts : holds every_junction_counts ≡ true
unfolding opened
every-junction-counts = refl

pub round-to-itself : holds round_to_itself ≡ true
unfolding opened
round-to-itself = refl

pub every-child-moves : holds every_child_moves ≡ true
unfolding opened
every-child-moves = refl

pub targets-record : holds targets_record ≡ true
unfolding opened
targets-record = refl

pub arenas-record : holds arenas_record ≡ true
unfolding opened
arenas-record = refl

pub child-after-inner : holds child_after_inner ≡ true
unfolding opened
child-after-inner = refl

pub ninth-to-nobody : holds ninth_to_nobody ≡ true
unfolding opened
ninth-to-nobody = refl

pub last-does-not-pass : holds last_does_not_pass ≡ true
unfolding opened
last-does-not-pass = refl

pub many-ways-pass : holds many_ways_pass ≡ true
unfolding opened
many-ways-pass = refl

pub inner-after-dead-end : holds inner_after_dead_end ≡ true
unfolding opened
inner-after-dead-end = refl

pub back-to-the-list-before : holds back_to_the_list_before ≡ true
unfolding opened
back-to-the-list-before = refl

pub siblings-record : holds siblings_record ≡ true
unfolding opened
siblings-record = refl

pub record-stays : holds record_stays ≡ true
unfolding opened
record-stays = refl

pub outer-to-its-child : holds outer_to_its_child ≡ true
unfolding opened
outer-to-its-child = refl

pub itself-over-the-root : holds itself_over_the_root ≡ true
unfolding opened
itself-over-the-root = refl

pub higher-junction-first : holds higher_junction_first ≡ true
unfolding opened
higher-junction-first = refl

pub way-given-up-over-the-root : holds way_given_up_over_the_root ≡ true
unfolding opened
way-given-up-over-the-root = refl

pub each-transition-by-itself : holds each_transition_by_itself ≡ true
unfolding opened
each-transition-by-itself = refl

pub nine-in-a-row : holds nine_in_a_row ≡ true
unfolding opened
nine-in-a-row = refl

pub event-after-send : holds event_after_send ≡ true
unfolding opened
event-after-send = refl

pub stack-across-send : holds stack_across_send ≡ true
unfolding opened
stack-across-send = refl

pub initial-is-named : holds initial_is_named ≡ true
unfolding opened
initial-is-named = refl

pub branch-by-branch : holds branch_by_branch ≡ true
unfolding opened
branch-by-branch = refl

pub any-event-in-order : holds any_event_in_order ≡ true
unfolding opened
any-event-in-order = refl

pub junction-of-another : holds junction_of_another ≡ true
unfolding opened
junction-of-another = refl

pub inner-to-one-beside : holds inner_to_one_beside ≡ true
unfolding opened
inner-to-one-beside = refl

pub inner-to-one-above : holds inner_to_one_above ≡ true
unfolding opened
inner-to-one-above = refl

pub initial-below-a-child : holds initial_below_a_child ≡ true
unfolding opened
initial-below-a-child = refl

pub record-below-a-child : holds record_below_a_child ≡ true
unfolding opened
record-below-a-child = refl

pub sweep-goes-on : holds sweep_goes_on ≡ true
unfolding opened
sweep-goes-on = refl

pub roots-record : holds roots_record ≡ true
unfolding opened
roots-record = refl

pub way-by-parents : holds way_by_parents ≡ true
unfolding opened
way-by-parents = refl

pub bound-of-all-transitions : holds bound_of_all_transitions ≡ true
unfolding opened
bound-of-all-transitions = refl

pub send-in-a-loop : holds send_in_a_loop ≡ true
unfolding opened
send-in-a-loop = refl

pub loop-of-two : holds loop_of_two ≡ true
unfolding opened
loop-of-two = refl

pub loop-apart : holds loop_apart ≡ true
unfolding opened
loop-apart = refl

pub faults-in-order : every holds faults_in_order ≡ true
unfolding opened
faults-in-order = refl

pub apart-hold : every holds apart ≡ true
unfolding every apart
apart-hold =
    rw (
      dead-end-behind,
      segments-of-another-event,
      every-junction-counts,
      round-to-itself,
      every-child-moves,
      targets-record,
      arenas-record,
      child-after-inner,
      ninth-to-nobody,
      last-does-not-pass,
      many-ways-pass,
      inner-after-dead-end,
      back-to-the-list-before,
      siblings-record,
      record-stays,
      outer-to-its-child,
      itself-over-the-root,
      higher-junction-first,
      way-given-up-over-the-root,
      each-transition-by-itself,
      nine-in-a-row,
      event-after-send,
      stack-across-send,
      initial-is-named,
      branch-by-branch,
      any-event-in-order,
      junction-of-another,
      inner-to-one-beside,
      inner-to-one-above,
      initial-below-a-child,
      record-below-a-child,
      sweep-goes-on,
      roots-record,
      way-by-parents,
      bound-of-all-transitions,
      send-in-a-loop,
      loop-of-two,
      loop-apart,
    )
    faults-in-order
