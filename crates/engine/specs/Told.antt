-- What the engine's functions answer, as the rules have it, and the steps between the rules' definitions. Assumes nothing.
use Rattle.std.specs.Prelude.{Bool, true, false, List, [], ◌∷◌, ◌++◌, ℕ, zero, suc, ◌+◌, Option, Some, None, Result, Ok, Err}
use Rattle.rules.specs.Lists.{when◌then◌else◌}
use Rattle.rules.specs.Chart.{State, Segment, Chart, Block, Instruction, during, source_kind, source, condition_action, outer, inner, code}
use Rattle.rules.specs.Doing.{Now, Outcome, refused, went, Doing, give, refuse, ◌>>=◌, ◌>>◌, pay, segment_passed, during_point, note}
use Rattle.rules.specs.Block.{Ran, ran, abandoned, send_from, sent_to, perform}
use Rattle.rules.specs.Search.{Found, reached, nowhere, ended, run_abandoned, passes, search}
use Rattle.rules.specs.Fire.{fire}
use Rattle.rules.specs.Run.{send}
use Rattle.rules.specs.declared.numbers.SegmentNo.{SegmentNo}
use Rattle.rules.specs.declared.refusals.Refusal.{Refusal}
use Rattle.chart.specs.Places.{header_of}
use Rattle.chart.specs.Read.{starting_from}
use Rattle.doing.specs.Outcomes.{refusal_of}
use Rattle.engine.specs.declared.cycle.Tried.{Tried}
use Rattle.engine.specs.declared.cycle.Tried.TheVariants.{Failed, Passed, Abandoned}
use Rattle.engine.specs.declared.cycle.Found.{Found as CodeFound}
use Rattle.engine.specs.declared.cycle.Found.TheVariants as it

-- the path once a segment was tried after it
abbrev pub path_after : Tried → List Segment → Segment → List Segment
path_after Failed path t = path
path_after Passed path t = path ++ (t ∷ [])
path_after Abandoned path t = path ++ (t ∷ [])

-- what a search comes to, with the path that it leaves
abbrev pub found : CodeFound → List Segment → Found
found (it.Reached s) path = reached s.0 path
found it.Nowhere path = nowhere
found it.Ended path = ended
found it.Abandoned path = run_abandoned

abbrev pub found_of : Result CodeFound Refusal → List Segment → Now → Outcome Found
found_of (Err r) path n = refused (refusal_of r)
found_of (Ok f) path n = went (found f path) n

unfoldable pub is_abandoned : Ran → Bool
is_abandoned (ran st) = false
is_abandoned abandoned = true

module _ (c : Chart) where
  -- the rest of the list that a segment stands in
  unfoldable pub later : Segment → List Segment
  later t = starting_from c (header_of c) (source_kind c t) (source c t) (t + 1)

  -- a list of segments by its first
  unfoldable pub list_of : Option SegmentNo → List Segment
  list_of None = []
  list_of (Some t) = t.0 ∷ later t.0

  -- a segment is tried, and paid for before: whether it passes
  unfoldable pub tested : ℕ → Segment → Doing Bool
  tested e t = pay >> passes c e t

  -- n more sends can be opened
  module _ (n : ℕ) where
    -- the send of a block, paid before it: whether the rest is abandoned then
    unfoldable pub paid_send : State → Instruction → Doing Bool
    paid_send owner i = pay >> send_from owner (send c n) i.a (sent_to i)

    -- a block that can send: whether the rest of it and of the owner's run is abandoned
    unfoldable pub acted : State → Block → Doing Bool
    acted owner k = perform (send_from owner (send c n)) [] (code c k) >>= (λ r. give (is_abandoned r))

    -- a segment passes: its item, its condition action
    unfoldable pub passing : State → Segment → Doing Bool
    passing owner t = note segment_passed t >> acted owner (condition_action c t)

    -- with so many segments more on the path at most
    unfoldable pub passing_within : ℕ → State → Segment → Doing Tried
    passing_within zero owner t = refuse 19
    passing_within (suc m) owner t = passing owner t >>= (λ b. give (when b then Abandoned else Passed))

    module _ (e : ℕ) where
      unfoldable pub tried : State → ℕ → Segment → Doing Tried
      tried owner m t = tested e t >>= (λ b. when b then passing_within m owner t else give Failed)

      -- after a search a path to a state is fired: whether the run of p is over
      unfoldable pub ending : State → Found → Doing Bool
      ending p (reached s path) = fire c p s path >> give true
      ending p nowhere = give false
      ending p ended = give false
      ending p run_abandoned = give true

      unfoldable pub followed : State → List Segment → Doing Bool
      followed p ts = search c (send c n) e p ts >>= ending p

      -- no outer segment reached a state: the during action, then the inner segments
      unfoldable pub inside_alone : State → Doing Bool
      inside_alone p =
          note during_point p >> (acted p (during c p) >>= (λ b. when b then give true else followed p (inner c p)))

      -- p is run by itself, without its children
      unfoldable pub run_alone : State → Doing Bool
      run_alone p = pay >> (followed p (outer c p) >>= (λ b. when b then give true else inside_alone p))
