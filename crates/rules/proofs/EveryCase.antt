-- Every worked case holds: by computation, list by list; so all do, and each one of them. Assumes nothing.
use mathlib.Core.Path.{◌≡◌, refl}
use mathlib.Core.Bool.{true}
use mathlib.Core.List.{List, [], ◌∷◌, ◌++◌}
use Prim.Native.Nat.{ℕ, ◌<◌}
use lib.ListN.{length, get_or}
use Rattle.rules.specs.Lists.{every}
use Rattle.rules.specs.Cases.{Case, holds, sessions_to_check}
use Rattle.rules.specs.ApartCases.{apart}
use Rattle.rules.specs.MoreCases.{moves, sends, values, limits, refused_charts, images, answers, sessions, cases}
use Rattle.rules.proofs.Laws.{both, and_both, every-at}
use Rattle.rules.proofs.Opened.{opened}
use Rattle.rules.proofs.Apart.{apart-hold}

to-check-hold : every holds sessions_to_check ≡ true
unfolding opened
to-check-hold = refl

moves-hold : every holds moves ≡ true
unfolding opened
moves-hold = refl

sends-hold : every holds sends ≡ true
unfolding opened
sends-hold = refl

values-hold : every holds values ≡ true
unfolding opened
values-hold = refl

limits-hold : every holds limits ≡ true
unfolding opened
limits-hold = refl

refused-hold : every holds refused_charts ≡ true
unfolding opened
refused-hold = refl

images-hold : every holds images ≡ true
unfolding opened
images-hold = refl

answers-hold : every holds answers ≡ true
unfolding opened
answers-hold = refl

sessions-hold : every holds sessions ≡ true
unfolding opened
sessions-hold = refl

joined : (xs ys : List Case) → every holds xs ≡ true → every holds ys ≡ true → every holds (xs ++ ys) ≡ true
unfolding every
joined [] ys p q = q
joined (x ∷ xs) ys p q = let (h, t) = both (holds x) (every holds xs) p in and_both (holds x) _ h (joined xs ys t q)

pub every-case : every holds cases ≡ true
unfolding cases
every-case =
    joined _ apart (joined _ sessions (joined _ answers (joined _ images (joined _ refused_charts (joined _ limits (joined _ values
    (joined _ sends (joined _ moves to-check-hold moves-hold) sends-hold) values-hold) limits-hold) refused-hold) images-hold)
    answers-hold) sessions-hold) apart-hold

-- each case of the list, by its place
pub each-case : (k : ℕ) (d : Case) → k < length cases → holds (get_or cases k d) ≡ true
each-case k d h = every-at holds cases every-case k d h
