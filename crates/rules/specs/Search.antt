-- The search along segments and junctions for a state. Assumes nothing.
use Rattle.std.specs.Prelude.{Bool, true, false, ◌||◌, not, List, [], ◌∷◌, ◌++◌, ℕ, zero, suc, eqb, length}
use Rattle.rules.specs.Bytes.{is_zero}
use Rattle.rules.specs.Lists.{when◌then◌else◌}
use Rattle.rules.specs.Chart.{State, Segment, Chart, event, condition, condition_action, destination, ends_on_state, from_junction, code}
use Rattle.rules.specs.Accept.{is_none}
use Rattle.rules.specs.Doing.{Doing, give, refuse, ◌>>=◌, ◌>>◌, pay, segment_passed, note}
use Rattle.rules.specs.Block.{unless_abandoned, Delivery, send_from, perform, value}

pub data Found : Type 0 where
  -- a target state, and the path to it
  reached : State → List Segment → Found
  -- no segment of the list passed to a state: the list before goes on
  nowhere : Found
  -- a junction without segments: the whole search is over
  ended : Found
  -- the source state is gone, and so is the rest of its run
  run_abandoned : Found

-- if none passes to a state, what follows is tried; else that is the search's answer
unfoldable pub or_next : Found → Doing Found → Doing Found
or_next (reached s path) m = give (reached s path)
or_next nowhere m = m
or_next ended m = give ended
or_next run_abandoned m = give run_abandoned

module _ (c : Chart) where
  -- an empty condition holds
  unfoldable pub holds : Segment → Doing Bool
  holds t = when is_none (condition c t) then give true else (value c (condition c t) >>= (λ z. give (not (is_zero z))))

  -- the event is 0 or the current event, and the condition, performed only then, is non-zero
  unfoldable pub passes : ℕ → Segment → Doing Bool
  passes e t = when eqb (event c t) 0 || eqb (event c t) e then holds t else give false

  module _ (deliver : Delivery) (e : ℕ) (source : State) where
    -- a list of segments is tried in order; f says how a segment that passes goes on
    unfoldable pub tries : (Segment → Doing Found) → List Segment → Doing Found
    tries f [] = give nowhere
    tries f (t ∷ ts) = do
      pay
      b ← passes e t
      o ← (when b then f t else give nowhere)
      or_next o (tries f ts)

    -- segment t passes, after path, with n segments more on it at most, t among them
    unfoldable pub passed : ℕ → List Segment → Segment → Doing Found
    passed zero path t = refuse 19
    passed (suc n) path t = do
      note segment_passed t
      r ← perform (send_from source deliver) [] (code c (condition_action c t))
      unless_abandoned r run_abandoned (λ _.
          when ends_on_state c t then give (reached (destination c t) (path ++ (t ∷ [])))
          else when eqb (length (from_junction c (destination c t))) 0 then give ended
          else tries (passed n (path ++ (t ∷ []))) (from_junction c (destination c t)))

    unfoldable pub search : List Segment → Doing Found
    search ts = tries (passed 128 []) ts
