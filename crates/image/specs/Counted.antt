-- A table with a place for each state's number: how many children it has, and how many of them are active. Assumes nothing.
use Rattle.std.specs.Prelude.{◌≡◌, Bool, ◌+◌, ◌<◌, get_or, length}
use Rattle.rules.specs.Lists.{when◌then◌else◌, keep}
use Rattle.rules.specs.Chart.{State, Chart, children}
use Rattle.rules.specs.Image.{Image, is_active}
use Rattle.image.specs.declared.shape.Children.{Children}
use Rattle.image.specs.declared.shape.Count.{Count}

-- the counts of p; past the end none
abbrev pub count_of : Children → State → Count
count_of k p = get_or k.0 p (record { all = 0; active = 0 })

-- one child more, which is active or not
abbrev pub one_more : Bool → Count → Count
one_more t n = record { all = n.all + 1; active = when t then n.active + 1 else n.active }

pub record Counted (im : Image) (c : Chart) (k : Children) : Type 0 where
  pub every : (p : State) → p < 256 → (count_of k p).all ≡ length (children c p)
  pub some : (p : State) → p < 256 → (count_of k p).active ≡ length (keep (is_active im) (children c p))
