-- Rules that no computed case reaches. Where 23 begins: at one over 1,000,000, whatever the chart; and that 22 comes before it, whatever
-- the bound. That an accepted image has 202 bytes: a call never meets another, since 12 comes first. Assumes nothing.
use mathlib.Core.Path.{◌≡◌}
use mathlib.Core.Bool.{true, false, not}
use lib.Dec.{eqb}
use lib.ListN.{length}
use borrow.Author.Tests.{eqb-true}
use Rattle.rules.specs.Lists.{below, every, all}
use Rattle.rules.specs.Chart.{Chart, junctions, instructions, instruction}
use Rattle.rules.specs.Accept.{is_send, ◌unless◌next◌}
use Rattle.rules.specs.Image.{Image, image_size, accepted}
use Rattle.rules.specs.Bound.{bound, loops, bound_refusal}
use Rattle.rules.proofs.Laws.{both}

module _ (c : Chart)
    (sendless : every (λ i. not (is_send (instruction c i).op)) (below (instructions c)) ≡ true)
    (loopless : every (λ j. not (loops c j)) (below (junctions c)) ≡ true) where
  pub at-the-limit : bound c ≡ 1000000 → bound_refusal c ≡ 0
  unfolding bound_refusal ◌unless◌next◌
  at-the-limit e = rw (sendless, loopless, e)

  pub over-the-limit : bound c ≡ 1000001 → bound_refusal c ≡ 23
  unfolding bound_refusal ◌unless◌next◌
  over-the-limit e = rw (sendless, loopless, e)

pub loops-first : (c : Chart) → every (λ i. not (is_send (instruction c i).op)) (below (instructions c)) ≡ true
    → every (λ j. not (loops c j)) (below (junctions c)) ≡ false → bound_refusal c ≡ 22
unfolding bound_refusal ◌unless◌next◌
loops-first c sendless looping = rw (sendless, looping)

pub accepted-length : (im : Image) (c : Chart) → accepted im c ≡ true → length im ≡ 202
unfolding accepted all every
accepted-length im c e = eqb-true (length im) image_size (both (eqb (length im) image_size) _ e).0
