-- What is still to perform is what the whole block was to perform; an instruction is refused or leaves less of it. Assumes nothing.
use mathlib.Core.Path.{◌∙◌}
use Rattle.doing.proofs.Lent.{same-itself, same-then}
use Rattle.blocks.proofs.Performing.{run-start, run_end, run-refused, run-goes}
use Rattle.blocks.proofs.action.run.Goals as goal

pub loop-k-init : goal.loop-k-init
loop-k-init c = (run-start c.args.part.now c.args.count _ _, same-itself)

pub returns-in_err-paid-clause-came : goal.returns-in_err-paid-clause-came
returns-in_err-paid-clause-came c =
    run-refused c.args.part.now c.args.count c.loop-k.k _ _ c.loop-k-test.true _ _ c.paid.ensures.came c.in_err-paid.was
    _ c.from_residual.ensures.1
    ∙ c.loop-k.invariant.0

pub returns-in_err-paid-clause-same : goal.returns-in_err-paid-clause-same
returns-in_err-paid-clause-same c = same-then c.loop-k.invariant.1 c.paid.ensures.same

pub loop-k-preserved : goal.loop-k-preserved
loop-k-preserved c = (
  run-goes c.args.part.now c.args.count c.loop-k.k _ _ c.loop-k-test.true _ _ c.paid.ensures.came c.in_ok-paid.was
      ∙ c.loop-k.invariant.0,
  same-then c.loop-k.invariant.1 c.paid.ensures.same,
)

pub returns-clause-came : goal.returns-clause-came
returns-clause-came c = run_end c.args.part.now c.args.count c.loop-k.k _ _ c.loop-k-test.false ∙ c.loop-k.invariant.0
