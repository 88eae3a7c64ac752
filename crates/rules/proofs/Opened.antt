-- To unfold `opened` is to unfold all of the rules, the charts and the cases: for what is checked by computation. A
-- definition that is not opened here leaves the computation stuck, and the check says so. Assumes nothing.
use Rattle.rules.specs.Bytes as Bytes
use Rattle.rules.specs.Lists as Lists
use Rattle.rules.specs.Chart as Chart
use Rattle.rules.specs.Accept as Accept
use Rattle.rules.specs.Image as Image
use Rattle.rules.specs.Doing as Doing
use Rattle.rules.specs.Block as Block
use Rattle.rules.specs.Search as Search
use Rattle.rules.specs.Fire as Fire
use Rattle.rules.specs.Run as Run
use Rattle.rules.specs.Bound as Bound
use Rattle.rules.specs.Calls as Calls
use Rattle.rules.specs.Session as Session
use Rattle.rules.specs.Charts as Charts
use Rattle.rules.specs.Cases as Cases
use Rattle.rules.specs.ApartCases as ApartCases
use Rattle.rules.specs.MoreCases as MoreCases

unfoldable pub bytes : Unit {0}
unfolding Bytes.ascii Bytes.bytes_of Bytes.put Bytes.signed Bytes.unsigned Bytes.fits Bytes.equals Bytes.is_zero Bytes.truth
bytes = tt

unfoldable pub lists : Unit {0}
unfolding Lists.when◌then◌else◌ Lists.up_from Lists.down_from Lists.below Lists.range Lists.every Lists.any Lists.all Lists.keep Lists.first Lists.is_in Lists.sum_over Lists.◌else◌
lists = tt

unfoldable pub chart : Unit {0}
unfolding Chart.op_of Chart.total Chart.instruction Chart.code Chart.children Chart.children_down Chart.starts_at Chart.outer Chart.inner Chart.from_junction Chart.lineage Chart.over
chart = tt

unfoldable pub accept : Unit {0}
unfolding Accept.◌unless◌next◌ Accept.marked Accept.zero_at Accept.op_rule Accept.is_send Accept.is_none Accept.ends_at Accept.barred Accept.depth_after Accept.stack_right Accept.counts_right Accept.record_right Accept.records_right Accept.parent_right Accept.children_right Accept.initial_right Accept.state_right Accept.states_right Accept.end_right Accept.segment_right Accept.every_block Accept.block_right Accept.blocks_right Accept.any_state Accept.operands_right Accept.instruction_right Accept.stack_use_right Accept.nothing_barred Accept.chart_refusal
accept = tt

unfoldable pub image : Unit {0}
unfolding Image.set_variable Image.not_started Image.rest_zero Image.history_sound Image.shape_at Image.shape Image.accepted Image.initial_bytes Image.fresh_image
image = tt

unfoldable pub doing : Unit {0}
unfolding Doing.because Doing.give Doing.done Doing.refuse Doing.◌>>=◌ Doing.◌>>◌ Doing.look Doing.change Doing.pay Doing.note Doing.each Doing.when_active
doing = tt

unfoldable pub block : Unit {0}
unfolding Block.unless_abandoned Block.top Block.lower Block.◌onto◌ Block.binary Block.checked Block.divided Block.gone Block.no_send Block.send_from Block.instruct Block.perform Block.action Block.value
block = tt

unfoldable pub search : Unit {0}
unfolding Search.or_next Search.holds Search.passes Search.tries Search.passed Search.search
search = tt

unfoldable pub fire : Unit {0}
unfolding Fire.leave_each Fire.parent_records Fire.leave Fire.on_the_way Fire.to_enter Fire.enter_each Fire.enter Fire.junction_parents Fire.common Fire.arena Fire.transit Fire.fire
fire = tt

unfoldable pub run : Unit {0}
unfolding Run.follow Run.run_active Run.run_children Run.run_inside Run.run_during Run.run Run.send Run.start Run.step
run = tt

unfoldable pub bound : Unit {0}
unfolding Bound.WWithin Bound.W Bound.G Bound.bound Bound.leads_to Bound.onward Bound.reaches Bound.loops Bound.bound_refusal
bound = tt

unfoldable pub calls : Unit {0}
unfolding Calls.part Calls.with_part Calls.part_refusal Calls.number_only Calls.unless_refused Calls.fresh_call Calls.bound_call Calls.step_refusal Calls.begin Calls.item_bytes Calls.step_answer Calls.step_call Calls.packed Calls.observed
calls = tt

unfoldable pub session : Unit {0}
unfolding Session.decimal Session.line Session.bad_session Session.items_in Session.step_line Session.event_lines Session.chart_lines Session.is_bad Session.session
session = tt

unfoldable pub charts : Unit {0}
unfolding Charts.block_bytes Charts.CH Charts.ST Charts.plain Charts.leaf Charts.JN Charts.TR Charts.bare Charts.VA Charts.IN Charts.chart_a Charts.backtrack Charts.dead_end Charts.to_itself Charts.shared Charts.sends_first Charts.beside Charts.reckons Charts.loop Charts.orders Charts.inside Charts.nested Charts.hangs_up Charts.sends_later Charts.sends_both Charts.beside_itself Charts.round_itself Charts.nested_beside Charts.other_child Charts.other_event Charts.dead_behind Charts.over_both Charts.remembers Charts.counts_round Charts.two_round Charts.alone_round Charts.dead_then_inner Charts.back_before Charts.beside_the_way Charts.to_its_child Charts.itself_over_root Charts.roots_first Charts.given_up_over_root Charts.acts_on_the_way Charts.sends_round Charts.sends_nine Charts.sends_on_the_way Charts.waits_across Charts.second_first Charts.two_branches Charts.any_event_first Charts.over_another Charts.inner_beside Charts.inner_upwards Charts.three_levels Charts.left_in_its_sweep Charts.root_remembers Charts.by_the_tree Charts.faultless Charts.faults_from Charts.chain Charts.deep Charts.alone Charts.pair Charts.upwards Charts.thrice Charts.many_ways Charts.blocks Charts.with_entry Charts.with_during Charts.with_exit Charts.with_condition Charts.with_condition_action Charts.with_transition_action Charts.unused Charts.times Charts.piles
charts = tt

unfoldable pub cases : Unit {0}
unfolding Cases.same_by Cases.lent Cases.board_from Cases.board_after Cases.is_answer Cases.holds Cases.event_bytes Cases.session_of Cases.second_step Cases.keeps_x Cases.second_not_tried Cases.weighs_five Cases.two_stays Cases.sessions_to_check
cases = tt

unfoldable pub apart_cases : Unit {0}
unfolding ApartCases.dead_end_behind ApartCases.segments_of_another_event ApartCases.every_junction_counts ApartCases.round_to_itself ApartCases.every_child_moves ApartCases.targets_record ApartCases.arenas_record ApartCases.child_after_inner ApartCases.ninth_to_nobody ApartCases.last_does_not_pass ApartCases.behind ApartCases.many_ways_pass ApartCases.inner_after_dead_end ApartCases.back_to_the_list_before ApartCases.siblings_record ApartCases.record_stays ApartCases.outer_to_its_child ApartCases.itself_over_the_root ApartCases.higher_junction_first ApartCases.way_given_up_over_the_root ApartCases.each_transition_by_itself ApartCases.nine_in_a_row ApartCases.event_after_send ApartCases.stack_across_send ApartCases.initial_is_named ApartCases.branch_by_branch ApartCases.any_event_in_order ApartCases.junction_of_another ApartCases.inner_to_one_beside ApartCases.inner_to_one_above ApartCases.initial_below_a_child ApartCases.record_below_a_child ApartCases.sweep_goes_on ApartCases.roots_record ApartCases.way_by_parents ApartCases.bound_of_all_transitions ApartCases.send_in_a_loop ApartCases.faults_in_order ApartCases.loop_of_two ApartCases.loop_apart ApartCases.apart
apart_cases = tt

unfoldable pub more_cases : Unit {0}
unfolding MoreCases.moves MoreCases.sends MoreCases.gives MoreCases.overflows MoreCases.enters MoreCases.values MoreCases.divides_by_zero MoreCases.limits MoreCases.at_state MoreCases.at_segment MoreCases.refused_charts MoreCases.images MoreCases.between MoreCases.fresh_a MoreCases.started_a MoreCases.answers MoreCases.sessions MoreCases.cases
more_cases = tt

unfoldable pub opened : Unit {0}
unfolding bytes lists chart accept image doing block search fire run bound calls session charts cases apart_cases more_cases
opened = tt
