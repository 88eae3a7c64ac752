-- The loop's invariant: the image is the fresh one with the variables before this one put. Assumes nothing.
use mathlib.Core.Path.{◌≡◌}
use Rattle.rules.proofs.Freshness.{made}
use Rattle.image.proofs.fresh.make.Given as goal

abbrev pub invariant-loop-v : goal.invariant-loop-v
invariant-loop-v l = l.image ≡ made l.chart l.v
