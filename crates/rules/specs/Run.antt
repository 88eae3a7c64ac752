-- A state is run, an event is sent, a step goes. Assumes nothing.
use Rattle.std.specs.Prelude.{[], ℕ, zero, suc, eqb}
use Rattle.rules.specs.Lists.{when◌then◌else◌, first}
use Rattle.rules.specs.Chart.{State, Chart, during, is_one_of, children, outer, inner, code}
use Rattle.rules.specs.Image.{is_active, not_started}
use Rattle.rules.specs.Doing.{Done, done, refuse, ◌>>=◌, ◌>>◌, look, pay, during_point, note, each, when_active}
use Rattle.rules.specs.Block.{unless_abandoned, Delivery, send_from, perform}
use Rattle.rules.specs.Search.{Found, reached, nowhere, ended, run_abandoned, search}
use Rattle.rules.specs.Fire.{levels, enter, fire}

module _ (c : Chart) where
  -- a path to a state is fired; with none the run of p goes on, unless it is abandoned
  unfoldable pub follow : State → Found → Done → Done
  follow p (reached s path) rest = fire c p s path
  follow p nowhere rest = rest
  follow p ended rest = rest
  follow p run_abandoned rest = done

  -- the active child of p; without one, as in no accepted image, nothing (0 is the root, and nobody's child)
  unfoldable pub run_active : (State → Done) → State → Done
  run_active f p = do
    im ← look
    let s = first (is_active im) (children c p)
    (when eqb s 0 then done else f s)

  -- of an all-of state each child that is active at its turn
  unfoldable pub run_children : (State → Done) → State → Done
  run_children f p = when is_one_of c p then run_active f p else each (λ s. when_active s (f s)) (children c p)

  module _ (deliver : Delivery) (e : ℕ) where
    -- after the during action: inner segments, then the children
    unfoldable pub run_inside : (State → Done) → State → Done
    run_inside f p = search c deliver e p (inner c p) >>= (λ o. follow p o (run_children f p))

    -- no outer segment reached a state
    unfoldable pub run_during : (State → Done) → State → Done
    run_during f p = do
      note during_point p
      r ← perform (send_from p deliver) [] (code c (during c p))
      unless_abandoned r tt (λ _. run_inside f p)

    unfoldable pub run : ℕ → State → Done
    run zero p = done  -- no accepted chart comes here
    run (suc d) p = do
      pay
      o ← search c deliver e p (outer c p)
      follow p o (run_during (λ s. run d s) p)

  -- an event goes to a state, with n sends more to open at most
  unfoldable pub send : ℕ → ℕ → State → Done
  send zero e b = when_active b (refuse 18)
  send (suc n) e b = when_active b (run (λ e' b'. send n e' b') e levels b)

  unfoldable pub start : Done
  start = enter c levels 0 0

  unfoldable pub step : ℕ → Done
  step e = λ n. when not_started n.image then start n else run (send 8) e levels 0 n
