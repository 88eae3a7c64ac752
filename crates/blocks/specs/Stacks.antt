-- The stack that the first n of some cells hold, the top first. Assumes nothing.
use Rattle.std.specs.Prelude.{List, [], ◌∷◌, ℕ, zero, suc, get_or, ℤ, pos}
use Rattle.rules.specs.Block.{Stack}

unfoldable pub stack_of : List ℤ → ℕ → Stack
stack_of cells zero = []
stack_of cells (suc n) = get_or cells n (pos 0) ∷ stack_of cells n
