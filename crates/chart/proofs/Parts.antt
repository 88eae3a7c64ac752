-- What stands in the part of a list from a place on stands that much further on in the whole; so an instruction does. Assumes
-- nothing.
use mathlib.Core.Path.{◌≡◌, ap, ◌∙◌}
use Prim.Native.Nat.{ℕ, ◌+◌}
use native.Mathlib.Omega.{arith}
use lib.ListN.{drop}
use lib.IntN.{ℤ}
use Rattle.rules.specs.Bytes.{Bytes, byte, field, signed}
use Rattle.rules.specs.Chart.{Op, op_of, Instruction}
use Rattle.fields.proofs.Laws.{byte-drop, field-drop}
use Rattle.chart.specs.Read.{instruction_from}

-- instructions with the same fields are the same
pub same-fields : {o p : Op} {a d : ℕ} {b e : ℤ} → o ≡ p → a ≡ d → b ≡ e
    → ◌≡◌ {A = Instruction} (record { op = o; a = a; b = b }) (record { op = p; a = d; b = e })
same-fields x y z = cc

pub instruction-drop : (b : Bytes) (a i : ℕ) → instruction_from (drop a b) i ≡ instruction_from b (a + i)
instruction-drop b a i =
    let further : (k : ℕ) → a + (i + k) ≡ a + i + k = λ k. omega arith in
    same-fields (ap op_of (byte-drop b a (i + 2) ∙ ap (byte b) (further 2))) (byte-drop b a (i + 3) ∙ ap (byte b) (further 3))
    (ap (signed 2) (field-drop 2 b a (i + 4) ∙ ap (field 2 b) (further 4)))
