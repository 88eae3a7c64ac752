-- A step that is refused leaves what was lent as it was; one that went hands on the image and the items, of which there are
-- no more than there is room for. Assumes nothing.
use mathlib.Core.Path.{refl, sym, ◌∙◌}
use native.Mathlib.Omega.{arith}
use Rattle.rules.proofs.BeyondCases.{accepted-length}
use Rattle.doing.specs.Held.{held}
use Rattle.afraulenc.proofs.Committing.{Ended, begun, refused-left, ended-by, spent, items-fit, items-most, went-left}
use borrow.Author.Rules.{rules}
use Rattle.afraulenc.proofs.step_on_copies.Goals as goal
use Rattle.afraulenc.proofs.step_on_copies.Goals.{In_ok-step}

-- how it ended, by the rules

ended : (c : In_ok-step) → Ended c.args.chart.now c.args.part.now c.args.trace.now c.args.event c.args.allowance (held c.step.new.now)
ended c =
    ended-by c.requires.taken c.requires.right c.step.ensures.came
    (begun c.args.trace.now c.room-room.ensures c.copy_from_slice.ensures.after c.new-now.ensures.value) c.in_ok-step.was

pub copy_from_slice-requires : goal.copy_from_slice-requires
copy_from_slice-requires c = sym (accepted-length c.args.part.now c.args.chart.now c.requires.right)

pub returns-in_err-step : goal.returns-in_err-step
returns-in_err-step c =
    refused-left c.args.chart.now c.args.part.now c.args.trace.now c.args.event c.args.allowance (held c.step.new.now) c.step.ensures.came
    (begun c.args.trace.now c.room-room.ensures c.copy_from_slice.ensures.after c.new-now.ensures.value) c.in_err-step.was
    _ c.from_residual.ensures.1

pub hand_on-requires : goal.hand_on-requires
hand_on-requires c = items-fit (ended (goal.at.hand_on-requires c).In_ok-step) _ _ c.items-noted.ensures.told

pub overflow_cast-went : goal.overflow_cast-went
overflow_cast-went c =
    let most = items-most (ended (goal.at.overflow_cast-went c).In_ok-step) _ _ c.items-noted.ensures.told in
    omega (arith, most)

pub overflow_sub-went : goal.overflow_sub-went
overflow_sub-went c = rw c.units.ensures (spent (ended (goal.at.overflow_sub-went c).In_ok-step))

pub returns : goal.returns
returns c =
    went-left (ended (goal.at.returns c).In_ok-step) _ _ c.items-noted.ensures.told c.units.ensures refl
    (c.copy_from_slice-2.ensures.after ∙ search rules) c.hand_on.ensures
