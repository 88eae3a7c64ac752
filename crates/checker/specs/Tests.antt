-- What a test of blocks is passed for, and the blocks of a state and of a segment, each with its place. Assumes nothing.
use Rattle.std.specs.Prelude.{Bool, ◌&&◌, ◌≡◌}
use Rattle.rules.specs.Chart.{Chart, Block, State, Segment, entry, during, exit, condition, condition_action, transition_action}
use Rattle.rules.specs.Accept.{Place, in_condition, in_action, in_sending_action}
use Rattle.chart.specs.declared.blocks.Block.{Block as CodeBlock}
use Rattle.chart.specs.Read.{block_of}
use Rattle.checker.specs.declared.blocks.Place.{Place as CodePlace}
use Rattle.checker.specs.Meaning.{place_meant}

-- the results that a test may give are what a rule says
abbrev pub Tests : (CodePlace → CodeBlock → Bool → Type 0) → (Place → Block → Bool) → Type 0
Tests gives rule = (p : CodePlace) (k : CodeBlock) (b : Bool) → gives p k b → b ≡ rule (place_meant p) (block_of k)

abbrev pub state_blocks : (Place → Block → Bool) → Chart → State → Bool
state_blocks rule c s = rule in_action (entry c s) && rule in_sending_action (during c s) && rule in_action (exit c s)

abbrev pub segment_blocks : (Place → Block → Bool) → Chart → Segment → Bool
segment_blocks rule c t =
    rule in_condition (condition c t) && rule in_sending_action (condition_action c t) && rule in_action (transition_action c t)
