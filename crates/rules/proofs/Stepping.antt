-- A step, whole: on an accepted image of an accepted chart it leaves the root active and demand 3's shape; and where the chart
-- has a bound, that many units are enough. Assumes nothing.
use mathlib.Core.Path.{◌≡◌, refl, ◌∙◌}
use mathlib.Core.Bool.{true, false}
use Prim.Native.Nat.{ℕ, ◌+◌, ◌/◌, ◌%◌, ◌^◌, ◌≤◌, ◌<◌}
use native.Mathlib.Decide.{ℕ_discrete}
use native.Mathlib.Nat.{zero-div}
use native.Mathlib.Omega.{arith}
use borrow.Author.Tests.{eqb-true}
use Rattle.rules.specs.Bytes.{byte}
use Rattle.rules.specs.Lists.{below, sum_over}
use Rattle.rules.specs.Chart.{State, Chart, states}
use Rattle.rules.specs.Accept.{zero_at}
use Rattle.rules.specs.Image.{Image, is_active, not_started, accepted}
use Rattle.rules.specs.Run.{run, send, start, step}
use Rattle.rules.specs.Bound.{G, bound}
use Rattle.rules.proofs.Laws.{clash, not_yes}
use Rattle.rules.proofs.Members.{mem_below, every-range}
use Rattle.rules.proofs.Sums.{sum-le}
use Rattle.rules.proofs.Distinct.{mem-light}
use Rattle.rules.proofs.Taken.{Tree, Right, tree}
use Rattle.rules.proofs.Trees.{low}
use Rattle.rules.proofs.Weights.{weigh-all}
use Rattle.rules.proofs.Soundness.{Sound}
use Rattle.rules.proofs.Triple.{◌⇒◌, Triple, t-pre, t-post, t-more, t_from, t-test}
use Rattle.rules.proofs.Bounded.{Bounded}
use Rattle.rules.proofs.Shape.{fine-off, Good}
use Rattle.rules.proofs.Entering.{Idle, Came, entering_cost, t-enter}
use Rattle.rules.proofs.Firing.{up_root, entering-within}
use Rattle.rules.proofs.Running.{running_cost, t-started}
use Rattle.rules.proofs.Accepting.{sound, started-good}

-- no state is active where nothing is started
none-active : (im : Image) → not_started im ≡ true → (s : State) → s < 64 → is_active im s ≡ false
unfolding not_started zero_at
none-active im e s h =
    let z : byte im (2 + s / 8) ≡ 0 = eqb-true _ _ (every-range (zero_at im) 2 74 e (2 + s / 8) (omega arith) (omega arith)) in
    rw (z, zero-div (2 ^ (s % 8)))

pub good-started : (c : Chart) (im : Image) → Good c im → not_started im ≡ false
good-started c im g = not_yes (not_started im) (λ e. clash g.root (none-active im e 0 (omega arith)))

module _ (c : Chart) (rt : Right c) where
  tr : Tree c
  tr = tree c rt

  -- so the root can be entered
  idle-root : (im : Image) → Sound c im → not_started im ≡ true → Idle c 0 im
  idle-root im so e =
      record {
        sound = so;
        off = none 0 tr.some;
        fine = λ s h g. fine-off (none s h) (λ k ch. none k ch.state);
      }
    where
      none : (s : State) → s < states c → is_active im s ≡ false
      none s h = none-active im e s (low c tr h)

  came-good : (im₀ : Image) → Idle c 0 im₀ → Came c 0 im₀ ⇒ Good c
  came-good im₀ a im g =
      record {
        sound = g.moved.sound;
        root = g.on;
        fine = λ s h. elim (ℕ_discrete s 0) [
          | yes e ↦ rw e g.self
          | no d ↦ g.moved.fine s h (λ q. d (q ∙ tr.top)) (a.fine s h (omega arith))
        ];
      }

  -- each state's part of the bound, and so G
  within-bound : sum_over (running_cost c) (below (states c)) ≤ bound c
  unfolding bound running_cost
  within-bound = sum-le (running_cost c) _ (below (states c)) (λ s m. omega arith)

  G-within : G c ≤ bound c
  unfolding running_cost
  G-within =
      omega (arith, mem-light (running_cost c) 0 (below (states c)) (mem_below (states c) 0 tr.some), within-bound)

  t-start : Triple (Bounded c) (bound c) (Idle c 0) (start c) (λ _. Good c)
  unfolding start
  t-start =
      t-more (λ x. omega (arith, weigh-all c tr (entering_cost c) 9 0 tr.some, entering-within c rt, G-within))
      (t_from (λ im₀ a. t-post (λ _. came-good im₀ a) (t-enter c rt 9 0 refl 0 0 tr.some tt im₀ a)))

  t-run-root : (e : ℕ) → Triple (Bounded c) (bound c) (Good c) (run c (send c 8) e 9 0) (λ _. Good c)
  t-run-root e =
      t-more (λ x. omega (arith, weigh-all c tr (running_cost c) 9 0 tr.some, within-bound))
      (t-pre (λ im g. (g, up_root c rt im g)) (t-started c rt e))

  pub t-step : (e : ℕ) → Triple (Bounded c) (bound c) (λ im. accepted im c ≡ true) (step c e) (λ _. Good c)
  unfolding step
  t-step e =
      t-test not_started (t-pre (λ im (z, a). idle-root im (sound c im a) z) t-start)
      (t-pre (λ im (z, a). started-good c im a z) (t-run-root e))
