-- What lasts: the board has lift k's part, with an image that a taken chart accepts. So it is after a call for lift k that goes,
-- and it stays so: a call writes nothing, or another lift's part, or this one's with an image that the same chart accepts.
-- Assumes nothing.
use mathlib.Core.Path.{◌≡◌, sym, subst}
use mathlib.Core.List.{List, [], ◌∷◌}
use Prim.Native.Nat.{ℕ}
use native.Mathlib.Decide.{ℕ_discrete}
use native.Mathlib.Omega.{arith}
use Rattle.rules.specs.Chart.{Chart}
use Rattle.rules.specs.Image.{Image}
use Rattle.rules.specs.Calls.{Board, with_part}
use Rattle.rules.proofs.Boards.{with_part-length, part_same, part-other}
use Rattle.promises.specs.Many.{Call, Goes, after_call, after_calls, chart_of, IsFor, KeptOn}
use Rattle.promises.proofs.Calling.{Lift}
use Rattle.promises.proofs.Writing.{one-lift, Written, Wrote, nothing, image, call-writes}

written-lifts : (x : Call) (board : Board) (k : ℕ) (im : Image) → Written x k board im → Lift (chart_of x) k (with_part board k im)
written-lifts x board k im w =
    record {
      chart = w.chart;
      has = omega (arith, w.has, with_part-length board im k w.has w.size);
      taken = rw (part_same board im k w.has w.size) w.taken;
    }

wrote-lifts : (x : Call) (board : Board) (goes : Type 0) (board' : Board) → Wrote x board goes board' → goes → (k : ℕ) → IsFor k x
    → Lift (chart_of x) k board'
wrote-lifts x board goes board' (nothing none) g k f = absurd (none g k f)
wrote-lifts x board goes board' (image _ j im w) g k f = rw (one-lift x f w.for) (written-lifts x board j im w)

pub goes-lifts : (x : Call) (board : Board) → Goes x board → (k : ℕ) → IsFor k x → Lift (chart_of x) k (after_call x board)
goes-lifts x board g k f = wrote-lifts x board _ _ (call-writes x board) g k f

module _ (c : Chart) (k : ℕ) (board : Board) (o : Lift c k board) where
  wrote-lasts : (x : Call) (goes : Type 0) (board' : Board) → Wrote x board goes board' → (goes → IsFor k x → chart_of x ≡ c)
      → Lift c k board'
  wrote-lasts x goes board' (nothing none) same = o
  wrote-lasts x goes board' (image g j im w) same =
      elim (ℕ_discrete k j) [
        | yes e ↦
            let f : IsFor k x = subst (λ (i : ℕ). IsFor i x) (sym e) w.for in
            rw (← same g f, e) (written-lifts x board j im w)
        | no d ↦
            record {
              chart = o.chart;
              has = omega (arith, o.has, with_part-length board im j w.has w.size);
              taken = rw (part-other board im j w.has w.size k d) o.taken;
            }
      ]

pub calls_last : (c : Chart) (k : ℕ) (xs : List Call) (board : Board) → KeptOn c k xs board → Lift c k board
    → Lift c k (after_calls xs board)
calls_last c k [] board kept o = o
calls_last c k (x ∷ xs) board kept o =
    calls_last c k xs (after_call x board) kept.1 (wrote-lasts c k board o x _ _ (call-writes x board) kept.0)
