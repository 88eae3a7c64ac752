-- Leaving, entering, and firing a path. Assumes nothing.
use Rattle.std.specs.Prelude.{◌&&◌, not, List, [], ◌∷◌, map, ℕ, zero, suc, ◌+◌, eqb}
use Rattle.rules.specs.Lists.{when◌then◌else◌, every, keep, first, ◌else◌}
use Rattle.rules.specs.Chart.{State, Segment, Chart, deepest, parent, initial, entry, exit, junction_parent, destination, ends_on_state, transition_action, is_one_of, keeps_history, children, children_down, lineage, over}
use Rattle.rules.specs.Image.{Image, recorded, activate, deactivate, record_child}
use Rattle.rules.specs.Doing.{Done, done, ◌>>=◌, ◌>>◌, look, change, pay, state_entered, state_left, transition_performed, note, each, when_active}
use Rattle.rules.specs.Block.{action}

-- the root and the levels below it
abbrev pub levels : ℕ
levels = deepest + 1

module _ (c : Chart) where
  -- the active children of s, highest number first
  unfoldable pub leave_each : (State → Done) → State → Done
  leave_each f s = each (λ k. when_active k (f k)) (children_down c s)

  -- a history parent records s
  unfoldable pub parent_records : State → Done
  parent_records s = when keeps_history c (parent c s) then change (λ im. record_child im (parent c s) s) else done

  unfoldable pub leave : ℕ → State → Done
  leave zero s = done  -- no accepted chart comes here
  leave (suc d) s = do
    pay
    leave_each (λ k. leave d k) s
    action c (exit c s)
    parent_records s
    change (λ im. deactivate im s)
    note state_left s

  -- the child of s on the way to the target; 0 if there is none
  unfoldable pub on_the_way : State → State → State
  on_the_way s target = first (λ k. over c k target) (children c s)

  -- the children of s to be entered: of a one-of state one, else each
  unfoldable pub to_enter : State → State → Image → List State
  to_enter s target im =
      when is_one_of c s then (on_the_way s target else recorded im s else initial c s) ∷ [] else children c s

  unfoldable pub enter_each : (State → Done) → State → State → Done
  enter_each f target s = look >>= (λ im. each f (to_enter s target im))

  unfoldable pub enter : ℕ → State → State → Done
  enter zero target s = done  -- nor here
  enter (suc d) target s = do
    pay
    change (λ im. activate im s)
    note state_entered s
    action c (entry c s)
    enter_each (λ k. enter d target k) target s

  -- the parents of the junctions on a path
  unfoldable pub junction_parents : List Segment → List State
  junction_parents path = map (λ t. junction_parent c (destination c t)) (keep (λ t. not (ends_on_state c t)) path)

  -- the lowest state that is, or is above, the source, the target and the parent of each junction on the path
  unfoldable pub common : State → State → List Segment → State
  common source target path =
      first (λ s. over c s target && every (over c s) (junction_parents path)) (lineage c deepest source)

  unfoldable pub arena : State → State → List Segment → State
  arena source target path =
      when eqb source target && eqb source (common source target path) then parent c source else common source target path

  unfoldable pub transit : Segment → Done
  transit t = note transition_performed t >> action c (transition_action c t)

  unfoldable pub fire : State → State → List Segment → Done
  fire source target path = do
    leave_each (leave levels) (arena source target path)
    each transit path
    enter_each (enter levels target) target (arena source target path)
