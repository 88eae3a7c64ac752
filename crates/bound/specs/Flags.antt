-- Junctions by flags, and where a segment leads on to from one that is flagged. Assumes nothing.
use Rattle.std.specs.Prelude.{Bool, false, ◌&&◌, List, ℕ, eqb, ltb, get_or, Option, Some, None}
use Rattle.std.proofs.Math.Bool as B
use Rattle.rules.specs.Lists.{when◌then◌else◌}
use Rattle.rules.specs.Chart.{Segment, Chart, junctions, source_kind, source, destination, ends_on_state}
use Rattle.rules.specs.declared.numbers.JunctionNo.{JunctionNo}
use Rattle.bound.specs.Sums.{table}

-- for each number that a junction can have, whether it passes
unfoldable pub flags : (ℕ → Bool) → List Bool
flags f = table f

abbrev pub is_flagged : List Bool → ℕ → Bool
is_flagged fs j = get_or fs j false

module _ (c : Chart) where
  -- segment t leads on from a flagged junction to another
  unfoldable pub leads_on : List Bool → Segment → Bool
  leads_on here t =
      eqb (source_kind c t) 2 && is_flagged here (source c t) && B.not (ends_on_state c t)
      && ltb (destination c t) (junctions c)

  -- where a segment leads on to, if it does
  abbrev pub led_to : List Bool → Segment → Option JunctionNo
  led_to here t = when leads_on here t then Some (record { 0 = destination c t }) else None
