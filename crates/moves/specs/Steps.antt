-- The steps of leaving and entering that are functions of their own. Assumes nothing.
use Rattle.std.specs.Prelude.{Bool, true, ◌&&◌, List, ℕ, zero, suc, Option, Some, None}
use Rattle.rules.specs.Lists.{when◌then◌else◌, every, ◌else◌}
use Rattle.rules.specs.Chart.{State, Segment, Chart, initial, entry, exit, junction_parent, destination, ends_on_state, over}
use Rattle.rules.specs.Image.{Image, recorded, activate, deactivate}
use Rattle.rules.specs.Doing.{Done, ◌>>◌, change, pay, state_entered, state_left, note}
use Rattle.rules.specs.Block.{action}
use Rattle.rules.specs.Fire.{junction_parents, parent_records, on_the_way}
use Rattle.rules.specs.declared.numbers.StateNo.{StateNo}

-- the state that a number names where 0 names none
abbrev pub named : ℕ → Option StateNo
named zero = None
named (suc n) = Some (record { 0 = suc n })

module _ (c : Chart) where
  -- the rest of leaving s, its children being left
  unfoldable pub departing : State → Done
  departing s = do
    action c (exit c s)
    parent_records c s
    change (λ im. deactivate im s)
    note state_left s

  -- the beginning of entering s, its children being still to enter
  unfoldable pub arriving : State → Done
  arriving s = do
    pay
    change (λ im. activate im s)
    note state_entered s
    action c (entry c s)

  -- the child of a one-of state that is entered
  unfoldable pub chosen_child : State → State → Image → State
  chosen_child s target im = on_the_way c s target else recorded im s else initial c s

  -- a is, or is above, the parent of the junction that t ends on, if it ends on one
  unfoldable pub over_end : State → Segment → Bool
  over_end a t = when ends_on_state c t then true else over c a (junction_parent c (destination c t))

  -- a is, or is above, the target and the parent of each junction on the path
  unfoldable pub over_all : State → List Segment → State → Bool
  over_all target path a = over c a target && every (over c a) (junction_parents c path)
