-- The promises are not empty: on a board of two lifts whose bytes are all 9, after two calls that are refused, lift 1 is made
-- fresh for chart A, started, refused and stepped again, also with a damaged chart; so it has the shape, by the theorem. Assumes
-- nothing.
use mathlib.Core.Path.{◌≡◌, refl}
use mathlib.Core.Bool.{false}
use mathlib.Core.List.{List, [], ◌∷◌}
use Prim.Native.Nat.{ℕ}
use native.Mathlib.Omega.{arith}
use lib.ListN.{replicate}
use Rattle.rules.specs.Bytes.{Bytes}
use Rattle.rules.specs.Charts.{chart_a}
use Rattle.rules.specs.Image.{not_started}
use Rattle.rules.specs.Calls.{Board, part}
use Rattle.rules.proofs.Opened.{opened}
use Rattle.promises.specs.Many.{Call, fresh, step, bound, answer, Goes, after_call, after_calls, KeptOn, WellShaped}
use Rattle.promises.proofs.Kept.{stays-shaped}

pub old : Board
old = replicate 404 9

pub lent : Bytes
lent = replicate 64 0

-- an image that is none, a lift that is not there
pub before : List Call
before = step chart_a lent 1 1 100 ∷ fresh chart_a 2 ∷ []

-- started, no such event, too few units, no chart, gone on, the bound, another lift
pub later : List Call
later =
    step chart_a lent 1 1 100 ∷ step chart_a lent 1 3 100 ∷ step chart_a lent 1 1 1 ∷ step [] lent 1 1 100
    ∷ step chart_a lent 1 1 100 ∷ bound chart_a ∷ fresh chart_a 0 ∷ []

pub board : Board
board = after_calls before old

numbers : List Call → Board → List ℕ
numbers [] b = []
numbers (x ∷ xs) b = (answer x b).refusal.number ∷ numbers xs (after_call x b)

refused-before : numbers before old ≡ 13 ∷ 12 ∷ []
unfolding opened numbers before old lent
refused-before = refl

then-numbers : numbers (fresh chart_a 1 ∷ later) board ≡ 0 ∷ 0 ∷ 14 ∷ 16 ∷ 1 ∷ 0 ∷ 0 ∷ 0 ∷ []
unfolding opened numbers before board later old lent
then-numbers = refl

made : Goes (fresh chart_a 1) board
unfolding opened before board old lent
made = refl

-- the call with no chart is refused, and the last one is for lift 0
kept : KeptOn chart_a 1 later (after_call (fresh chart_a 1) board)
unfolding opened before board later old lent
kept = (
  λ g e. refl,
  (
    λ g e. refl,
    (
      λ g e. refl,
      (
        λ g e. absurd (omega (arith, g)),
        (λ g e. refl, (λ g e. absurd e, (λ g e. absurd (omega arith), tt))),
      ),
    ),
  ),
)

started : not_started (part (after_calls (fresh chart_a 1 ∷ later) board) 1) ≡ false
unfolding opened before board later old lent
started = refl

pub shaped : WellShaped chart_a (part (after_calls (fresh chart_a 1 ∷ later) board) 1)
shaped = stays-shaped (fresh chart_a 1) later board 1 refl made kept started
