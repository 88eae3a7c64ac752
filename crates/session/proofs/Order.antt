-- The order of a session: its whole chart first, then the events, one record after the other, as `event_lines` has them.
-- Assumes nothing.
use mathlib.Core.Path.{◌≡◌, refl, sym, ap, ◌∙◌}
use mathlib.Core.Bool.{Bool, true, false, ◌||◌, not, true≢false, false≢true}
use mathlib.Core.List.{[], ◌∷◌, ◌++◌, append-nil}
use Prim.Native.Nat.{ℕ, ◌+◌, ◌-◌, ◌≤◌, ◌<◌, min}
use native.Mathlib.Omega.{arith}
use borrow.Author.Tests.{leb-true, leb-false, le-leb, lt-ltb, ltb-false, not-false, not-true}
use lib.Dec.{leb, ltb}
use lib.ListN.{length, take, drop, replicate, length-append, length-drop}
use lib.Seq.{take_all, length-take-le}
use Rattle.std.proofs.lemmas.List.{nil_from_length}
use Rattle.std.specs.declared.option.Option.{Option}
use Rattle.std.specs.Prelude.{None, Some, IfSome}
use Rattle.rules.specs.Bytes.{Bytes, byte, field}
use Rattle.rules.specs.Lists.{when◌then◌else◌, within}
use Rattle.rules.specs.Chart.{Chart}
use Rattle.rules.specs.Accept.{marked}
use Rattle.rules.specs.Doing.{most_units}
use Rattle.rules.specs.Calls.{Board, Answer, fresh_call, bound_call, step_call, Observed, observed}
use Rattle.rules.specs.Image.{image_size}
use Rattle.rules.specs.Session.{bad_session, step_line, event_lines, chart_lines, is_bad, session}
use Rattle.rules.proofs.Laws.{and_left, and_right}
use Rattle.session.specs.Said.{Told, told, starts_with_event, Lent, after_events, bound_line, after_chart, chart_text, Taken, Adds}

-- a session that is not bad has its whole chart
second-no : (a b : Bool) → (a || b) ≡ false → b ≡ false
second-no true b e = absurd (true≢false e)
second-no false b e = e

pub chart-within : (s : Bytes) {t : Bool} {end : ℕ} → t ≡ is_bad s → t ≡ false → end ≡ 4 + field 2 s 2 → end ≤ length s
unfolding is_bad
chart-within s own good e =
    rw e (ltb-false (length s) (4 + field 2 s 2) (second-no (ltb 16384 (length s) || not (marked s "SE" 0)) _ (sym own ∙ good)))

-- a record is whole where an event's comes
pub record-whole : (r : Bytes) {t : Bool} → t ≡ starts_with_event r → t ≡ true → 3 ≤ length r
record-whole r own so = leb-true 3 (length r) (and_left (leb 3 (length r)) (marked r "EV" 0) (sym own ∙ so))

-- what there is, a record and what stands behind it
pub record Cut (all r rest : Bytes) : Type 0 where
  pub parts : all ≡ r ++ rest
  pub size : length r ≡ min 3 (length all)
  pub some : 0 < length all

-- each record takes one byte or more
pub fewer : {all r rest : Bytes} → Cut all r rest → length rest + 1 ≤ length all
fewer {r = r} {rest = rest} cut = omega (arith, ap length cut.parts, length-append r rest, cut.size, cut.some)

-- a record that is shorter is the last
last : (r rest : Bytes) → length r ≡ min 3 (length (r ++ rest)) → length r < 3 → rest ≡ []
last r [] e h = refl
last r (x ∷ rest) e h = absurd (omega (arith, e, length-append r (x ∷ rest)))

module _ (c : Chart) (board : Board) (trace : Bytes) where
  -- the step of a record's event
  abbrev pub stepped : Bytes → Answer
  stepped r = step_call c board trace 0 (byte r 2) most_units

  -- an event's line, and then the lines of the records behind it, over what the step left
  pub event-next : (r : Bytes) → starts_with_event r ≡ true
      → event_lines c board trace r ≡ step_line (stepped r) ++ event_lines c (stepped r).board (stepped r).trace (drop 3 r)
  unfolding event_lines when◌then◌else◌ marked
  event-next [] t = absurd (false≢true t)
  event-next (m ∷ []) t = absurd (false≢true t)
  event-next (m ∷ n ∷ []) t = absurd (false≢true t)
  event-next (m ∷ n ∷ e ∷ rest) t = rw (and_right (leb 3 (length (m ∷ n ∷ e ∷ rest))) (marked (m ∷ n ∷ []) "EV" 0) t)

  -- any other record ends the session
  pub no-event : (r : Bytes) → starts_with_event r ≡ false → 0 < length r → event_lines c board trace r ≡ bad_session
  unfolding event_lines when◌then◌else◌ marked
  no-event [] t h = absurd (omega arith)
  no-event (m ∷ []) t h = refl
  no-event (m ∷ n ∷ []) t h = refl
  no-event (m ∷ n ∷ e ∷ rest) t h = rw (rw (le-leb 3 (length (m ∷ n ∷ e ∷ rest)) (omega arith)) at t)

  -- the same of a record that is cut off, with what stands behind it
  pub event-cut : (r rest : Bytes) → starts_with_event r ≡ true → length r ≤ 3
      → event_lines c board trace (r ++ rest) ≡ step_line (stepped r) ++ event_lines c (stepped r).board (stepped r).trace rest
  unfolding event_lines when◌then◌else◌ marked
  event-cut [] rest t h = absurd (false≢true t)
  event-cut (m ∷ []) rest t h = absurd (false≢true t)
  event-cut (m ∷ n ∷ []) rest t h = absurd (false≢true t)
  event-cut (m ∷ n ∷ e ∷ []) rest t h = rw (and_right (leb 3 3) (marked (m ∷ n ∷ []) "EV" 0) t)
  event-cut (m ∷ n ∷ e ∷ x ∷ r) rest t h = absurd (omega arith)

  -- any other record ends the session
  pub none-cut : (r rest : Bytes) → starts_with_event r ≡ false → 0 < length r → length r ≡ min 3 (length (r ++ rest))
      → event_lines c board trace (r ++ rest) ≡ bad_session
  unfolding event_lines when◌then◌else◌ marked
  none-cut [] rest t h e = absurd (omega arith)
  none-cut (m ∷ []) rest t h e = rw (last (m ∷ []) rest e (omega arith))
  none-cut (m ∷ n ∷ []) rest t h e = rw (last (m ∷ n ∷ []) rest e (omega arith))
  none-cut (m ∷ n ∷ e ∷ []) rest t h q = rw t
  none-cut (m ∷ n ∷ e ∷ x ∷ r) rest t h q = absurd (omega (arith, q))

  -- what is left goes the same way: by the event's step, and no further than the events
  after_next : (k : ℕ) (r rest : Bytes) → starts_with_event r ≡ true → length r ≤ 3
      → after_events c board trace k (r ++ rest) ≡ after_events c (stepped r).board (stepped r).trace (k + 1) rest
  unfolding after_events when◌then◌else◌ marked
  after_next k [] rest t h = absurd (false≢true t)
  after_next k (m ∷ []) rest t h = absurd (false≢true t)
  after_next k (m ∷ n ∷ []) rest t h = absurd (false≢true t)
  after_next k (m ∷ n ∷ e ∷ []) rest t h = rw (and_right (leb 3 3) (marked (m ∷ n ∷ []) "EV" 0) t)
  after_next k (m ∷ n ∷ e ∷ x ∷ r) rest t h = absurd (omega arith)

  after_none : (k : ℕ) (r rest : Bytes) → starts_with_event r ≡ false → 0 < length r → length r ≡ min 3 (length (r ++ rest))
      → after_events c board trace k (r ++ rest) ≡ record { board = board; trace = trace; lines = k + 1 }
  unfolding after_events when◌then◌else◌ marked
  after_none k [] rest t h e = absurd (omega arith)
  after_none k (m ∷ []) rest t h e = rw (last (m ∷ []) rest e (omega arith))
  after_none k (m ∷ n ∷ []) rest t h e = rw (last (m ∷ n ∷ []) rest e (omega arith))
  after_none k (m ∷ n ∷ e ∷ []) rest t h q = rw t
  after_none k (m ∷ n ∷ e ∷ x ∷ r) rest t h q = absurd (omega (arith, q))

-- a turn of the loop, over a record and what stands behind it: what is left, and what is still to be said
module _ (c : Chart) (board : Board) (trace : Bytes) (k : ℕ) {all r rest : Bytes} (cut : Cut all r rest) {t : Bool} (own : t ≡ starts_with_event r) where
  module _ (so : t ≡ true) {l : Bytes} {board' : Board} {trace' : Bytes}
      (e : record { said = l; board = board'; trace = trace' } ≡ told (step_call c board trace 0 (byte r 2) most_units)) where
    boards : board' ≡ (stepped c board trace r).board
    boards = ap (λ (x : Told). x.board) e

    traces : trace' ≡ (stepped c board trace r).trace
    traces = ap (λ (x : Told). x.trace) e

    short : length r ≤ 3
    short = omega (arith, cut.size)

    pub turn : after_events c board' trace' (k + 1) rest ≡ after_events c board trace k all
    turn = rw (boards, traces, cut.parts) (sym (after_next c board trace k r rest (sym own ∙ so) short))

    pub lines-turn : event_lines c board trace all ≡ l ++ event_lines c board' trace' rest
    lines-turn = rw (boards, traces, ap (λ (x : Told). x.said) e, cut.parts) (event-cut c board trace r rest (sym own ∙ so) short)

  module _ (other : t ≡ false) where
    begins : 0 < length r
    begins = omega (arith, cut.size, cut.some)

    pub turned-away : record { board = board; trace = trace; lines = k + 1 } ≡ after_events c board trace k all
    turned-away = rw cut.parts (sym (after_none c board trace k r rest (sym own ∙ other) begins (rw cut.parts at cut.size)))

    pub lines-away : event_lines c board trace all ≡ bad_session
    lines-away = rw cut.parts (none-cut c board trace r rest (sym own ∙ other) begins (rw cut.parts at cut.size))

module _ (c : Chart) (board : Board) (trace : Bytes) (k : ℕ) (all : Bytes) (none : length all ≡ 0) where
  pub all_told : record { board = board; trace = trace; lines = k } ≡ after_events c board trace k all
  unfolding after_events
  all_told = rw (nil_from_length all none)

  pub lines-all : event_lines c board trace all ≡ []
  unfolding event_lines
  lines-all = rw (nil_from_length all none)

-- the last bytes, as they are lent
rest_all : (events : Bytes) (at : ℕ) → take (length events - at) (drop at events) ≡ drop at events
rest_all events at = take_all (length events - at) (drop at events) (omega (arith, length-drop at events))

-- the chart's own turn: the lift is made fresh and the events follow, or the chart is refused and nothing does
module _ (c : Chart) (board : Board) (trace events : Bytes) {t : Bool} (own : t ≡ not (within 1 11 (bound_call c).refusal.number)) where
  pub chart-taken : t ≡ true → {r : ℕ} {board' : Board} {l : Lent}
      → record { answer = r; board = board'; trace = [] } ≡ observed (fresh_call c board 0)
      → l ≡ after_events c board' trace 0 events → l ≡ after_chart c board trace events
  unfolding after_chart when◌then◌else◌ observed
  chart-taken so fresh e =
      let boards = ap (λ (x : Observed). x.board) fresh in
      e ∙ rw (not-true (within 1 11 (bound_call c).refusal.number) (sym own ∙ so), boards)

  pub chart-refused : t ≡ false → record { board = board; trace = trace; lines = 0 } ≡ after_chart c board trace events
  unfolding after_chart when◌then◌else◌
  chart-refused so = rw (not-false (within 1 11 (bound_call c).refusal.number) (sym own ∙ so))

  -- what is said of it
  pub text-taken : t ≡ true → {r : ℕ} {board' : Board} → record { answer = r; board = board'; trace = [] } ≡ observed (fresh_call c board 0)
      → bound_line c ++ event_lines c board' trace events ≡ chart_text c board trace events
  unfolding chart_text when◌then◌else◌ observed
  text-taken so fresh =
      let boards = ap (λ (x : Observed). x.board) fresh in
      rw (not-true (within 1 11 (bound_call c).refusal.number) (sym own ∙ so), boards)

  pub text-refused : t ≡ false → bound_line c ≡ chart_text c board trace events
  unfolding chart_text when◌then◌else◌
  text-refused so =
      rw (not-false (within 1 11 (bound_call c).refusal.number) (sym own ∙ so)) (sym (append-nil (bound_line c)))

-- a session by its chart and its events
pub session-bad : (s : Bytes) {t : Bool} → t ≡ is_bad s → t ≡ true → session s ≡ bad_session
unfolding session when◌then◌else◌
session-bad s own so = rw (sym own ∙ so)

pub session-good : (s : Bytes) {t : Bool} {end : ℕ} → t ≡ is_bad s → t ≡ false → end ≡ 4 + field 2 s 2
    → chart_text (take (end - 4) (drop 4 s)) (replicate image_size 0) (replicate 1024 0) (take (length s - end) (drop end s)) ≡ session s
unfolding session chart_text chart_lines when◌then◌else◌
session-good s {t} {end} own so e =
    let chart : end - 4 ≡ field 2 s 2 = omega (arith, e) in
    rw (sym own ∙ so, rest_all s end, chart, e)

session-long : (s : Bytes) → 16384 < length s → session s ≡ bad_session
unfolding is_bad
session-long s h = session-bad s refl (rw (lt-ltb 16384 (length s) h))

-- a byte more than the longest session has tells as much as all
pub session-front : (given : Bytes) → session (take 16385 given) ≡ session given
session-front given = by-length (leb (length given) 16384) refl
  where
    by-length : (t : Bool) → leb (length given) 16384 ≡ t → session (take 16385 given) ≡ session given
    by-length true e =
        let short = leb-true (length given) 16384 e in
        ap session (take_all 16385 given (omega arith))
    by-length false e =
        let h = leb-false (length given) 16384 e in
        session-long (take 16385 given) (omega (arith, length-take-le 16385 given (omega arith))) ∙ sym (session-long given (omega arith))

-- what was written of the bytes that came is the text of all that there is, where all came
module _ (a b : Taken) (s text : Bytes) (is : text ≡ session s) (w : Adds a b text) where
  pub told-all : (n : ℕ) → n ≡ 16385 → (known : Option Bytes) → IfSome known (λ given. s ≡ take n given)
      → IfSome known (λ given. Adds a b (session given))
  told-all n long None e = tt
  told-all n long (Some given) e =
      let all : text ≡ session given = is ∙ ap session (e ∙ ap (λ m. take m given) long) ∙ session-front given in
      rw all at w

  -- and in any case it is that of the first bytes, so many
  pub told-some : (n : ℕ) (known : Option Bytes) → IfSome known (λ given. s ≡ take n given)
      → IfSome known (λ given. (k : ℕ) × Adds a b (session (take k given)))
  told-some n None e = tt
  told-some n (Some given) e =
      let some : text ≡ session (take n given) = is ∙ ap session e in
      (n, rw some at w)
