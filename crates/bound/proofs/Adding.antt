-- What the bound adds up, of the blocks that were read: up to the limit it is the sum of what the code adds.
-- Assumes nothing.
use mathlib.Core.Path.{◌≡◌, refl, ap, ◌∙◌}
use mathlib.Core.List.{List}
use Prim.Native.Nat.{ℕ, ◌+◌, ◌<◌}
use native.Mathlib.Numerals.{add-one}
use native.Mathlib.Omega.{arith}
use Rattle.rules.specs.Bytes.{byte}
use Rattle.rules.specs.Lists.{below, keep, sum_over}
use Rattle.rules.specs.Chart.{Chart, Block, State, Segment, states, junctions, segments, entry, during, exit, transition_action, starts_at, outer, inner}
use Rattle.rules.specs.Bound.{W, G, bound}
use Rattle.chart.specs.Read.{block_of}
use Rattle.chart.specs.declared.blocks.Block.{Block as CodeBlock}
use Rattle.bound.specs.Sums.{capped, weight_on, weights_within, state_run}
use Rattle.bound.proofs.Capping.{run-capped, add-capped, capped-once, sum-capped}
use Rattle.bound.proofs.Weighing.{on-within}

-- what the bound adds up: of a state, and of a segment
abbrev pub state_moves : Chart → State → ℕ
state_moves c s = 2 + (entry c s).count + (exit c s).count

abbrev pub segment_moves : Chart → Segment → ℕ
segment_moves c t = (transition_action c t).count

abbrev pub state_bound : Chart → State → ℕ
state_bound c s = 1 + (during c s).count + sum_over (W c) (outer c s) + sum_over (W c) (inner c s) + G c

module _ (c : Chart) (bytes : (i : ℕ) → byte c i < 256) where
  on-junctions : (xs : List Segment) → capped (sum_over (weight_on c (weights_within c (junctions c))) xs) ≡ capped (sum_over (W c) xs)
  unfolding W
  on-junctions xs = sum-capped _ _ (λ t. on-within c bytes (junctions c) t ∙ rw (add-one (junctions c))) xs

  -- a state's part of the bound
  pub state-part : (s : State) {r moves : ℕ} → moves ≡ capped (G c) → r ≡ capped (state_run c (weights_within c (junctions c)) s + moves)
      → r ≡ capped (state_bound c s)
  unfolding state_run outer inner
  state-part s {moves = moves} m e =
      e
      ∙ add-capped _ _ moves (G c)
      (add-capped _ _ _ _ (add-capped _ _ _ _ refl (on-junctions (keep (starts_at c 0 s) (below (segments c))))) (on-junctions (keep (starts_at c 1 s) (below (segments c)))))
      (capped-once (G c) m)

-- the parts, of the blocks that were read
module _ (c : Chart) (s : State) {a b : CodeBlock} where
  pub state-moved : block_of a ≡ entry c s → block_of b ≡ exit c s → 2 + a.count + b.count ≡ state_moves c s
  state-moved p q = omega (arith, ap (λ (k : Block). k.count) p, ap (λ (k : Block). k.count) q)

pub segment-moved : (c : Chart) (t : Segment) {a : CodeBlock} → block_of a ≡ transition_action c t → a.count ≡ segment_moves c t
segment-moved c t p = ap (λ (k : Block). k.count) p

pub state-run : (c : Chart) (sums : List ℕ) (s : State) {a : CodeBlock} → block_of a ≡ during c s → (moves : ℕ) {o i u r v : ℕ}
    → o ≡ capped (sum_over (weight_on c sums) (keep (starts_at c 0 s) (below (segments c))))
    → i ≡ capped (sum_over (weight_on c sums) (keep (starts_at c 1 s) (below (segments c))))
    → u ≡ capped (1 + a.count + o) → r ≡ capped (u + i) → v ≡ capped (r + moves) → v ≡ capped (state_run c sums s + moves)
unfolding state_run
state-run c sums s {a} d moves p q u r v = rw (← ap (λ (k : Block). k.count) d) (run-capped a.count _ _ moves p q u r v)

pub all-moves : (c : Chart) {n : ℕ} → n ≡ capped (sum_over (state_moves c) (below (states c)) + sum_over (segment_moves c) (below (segments c))) → n ≡ capped (G c)
unfolding G
all-moves c e = e

pub all-states : (c : Chart) {n : ℕ} → n ≡ capped (sum_over (state_bound c) (below (states c))) → n ≡ capped (bound c)
unfolding bound
all-states c e = e
