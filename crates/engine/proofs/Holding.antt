-- A segment's condition: an empty one holds, and another by the top of the stack that it leaves. Assumes nothing.
use mathlib.Core.Path.{◌≡◌, sym, ◌∙◌}
use mathlib.Core.Bool.{Bool, true}
use mathlib.Core.Bool as B
use mathlib.Core.List.{[]}
use Prim.Native.Nat.{◌*◌}
use lib.ListN.{take, drop}
use lib.IntN.{pos}
use borrow.Author.Tests.{eq-eqb, ne_eqb}
use Rattle.rules.specs.Bytes.{Bytes, is_zero}
use Rattle.rules.specs.Lists.{when◌then◌else◌}
use Rattle.rules.specs.Chart.{Chart, Segment, Block, condition, code, instruction_at}
use Rattle.rules.specs.Accept.{is_none}
use Rattle.rules.specs.Doing.{Now, went, Doing, give, after, ◌>>=◌}
use Rattle.rules.specs.Block.{Ran, unless_abandoned, top, no_send, perform, value}
use Rattle.rules.specs.Search.{holds}
use Rattle.chart.specs.Read.{block_of}
use Rattle.chart.specs.declared.blocks.Block.{Block as CodeBlock}
use Rattle.blocks.specs.Code.{code_in}
use Rattle.blocks.proofs.Performing.{part-code}
use Rattle.engine.proofs.Joining.{after-after}

-- what follows a condition's block
abbrev pub top_tested : Ran → Doing Bool
top_tested r n = after (unless_abandoned r (pos 0) (λ st. give (top st)) n) (λ z. give (B.not (is_zero z)))

unfoldable conditioned : Chart → Block → Doing Bool
conditioned c k = when is_none k then give true else (value c k >>= (λ z. give (B.not (is_zero z))))

module _ (c : Chart) (t : Segment) (k : CodeBlock) (is : block_of k ≡ condition c t) (n : Now) where
  holds-is : conditioned c (block_of k) n ≡ holds c t n
  unfolding conditioned holds
  holds-is = rw is

  pub holds-empty : k.count ≡ 0 → went true n ≡ holds c t n
  unfolding conditioned is_none when◌then◌else◌ give
  holds-empty e = rw (eq-eqb k.count 0 e) at holds-is

  pub holds-tested : (k.count ≡ 0 → ⊥) → (part : Bytes) → part ≡ take (6 * k.count) (drop (instruction_at c k.start) c)
      → after (perform no_send [] (code_in part 0 k.count) n) top_tested ≡ holds c t n
  unfolding conditioned value is_none when◌then◌else◌ ◌>>=◌
  holds-tested some part cut =
      rw (cut, part-code c (block_of k))
      (sym (after-after (perform no_send [] (code c (block_of k)) n) _ _) ∙ (rw (ne_eqb k.count 0 some) at holds-is))
