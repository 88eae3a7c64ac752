-- The loop's invariant: the image is the fresh one with the variables before this one put. Assumes nothing.
use mathlib.Core.Path.{◌≡◌, ap}
use native.Mathlib.Omega.{arith}
use Rattle.rules.specs.declared.headers.Header.{Header}
use Rattle.rules.specs.Chart.{Chart, variables}
use Rattle.chart.specs.Places.{header_of}
use Rattle.image.proofs.Making.{made_none, made_more, made_all}
use Rattle.image.proofs.fresh.make.Goals as goal

many : (c : Chart) {h : Header} → h ≡ header_of c → h.variables ≡ variables c
many c own = ap (λ (h : Header). h.variables) own

pub loop-v-init : goal.loop-v-init
loop-v-init c = made_none c.args.chart.now (c.fill.ensures.after (λ y e. e)) c.requires.0 c.mark.ensures

pub loop-v-preserved : goal.loop-v-preserved
loop-v-preserved c = made_more c.args.chart.now c.loop-v.v c.loop-v.invariant (omega (arith, c.requires.1, many c.args.chart.now c.header-v-end.ensures)) c.initial_value.ensures c.set_number.ensures

pub returns : goal.returns
returns c = made_all c.args.chart.now c.loop-v.v c.loop-v.invariant (omega (arith, many c.args.chart.now c.header-v-end.ensures))
