-- Five wrong engines that the step's contract shuts out. The contract is an equation, at every input, of what a host observes of the
-- call; each engine has the call's type and breaks it on an input that is computed here, the last on any where its units are others.
-- Assumes nothing.
use mathlib.Core.Path.{◌≡◌, refl, sym, ap, ◌∙◌}
use mathlib.Core.List.{[], ◌∷◌}
use Prim.Native.Nat.{ℕ, suc}
use native.Mathlib.Omega.{arith}
use Rattle.rules.specs.Bytes.{Bytes, byte}
use Rattle.rules.specs.Lists.{when◌then◌else◌}
use Rattle.rules.specs.Chart.{Chart}
use Rattle.rules.specs.Image.{not_started}
use Rattle.rules.specs.Doing.{because}
use Rattle.rules.specs.Calls.{Board, Answer, Observed, observed, packed, part, number_only, step_call}
use Rattle.rules.specs.Charts.{chart_a}
use Rattle.rules.specs.Cases.{lent, board_after}
use Rattle.rules.proofs.Opened.{opened}

-- what is made of a step's input
abbrev pub OfInput : Type 0 → Type 0
OfInput A = Chart → Board → Bytes → ℕ → ℕ → ℕ → A

-- the contract of the exported step: what the host observes is what the rules give it
abbrev pub Meets : OfInput Answer → Type 0
Meets f =
    (c : Chart) (board : Board) (trace : Bytes) (k e allowance : ℕ)
    → observed (f c board trace k e allowance) ≡ observed (step_call c board trace k e allowance)

-- ── the engines ──

-- refuses everything, whatever number it finds for it
pub refuses_everything : OfInput ℕ → OfInput Answer
refuses_everything why c board trace k e allowance =
    number_only (because (suc (why c board trace k e allowance))) board trace

-- has one fixed answer, whichever
pub one_answer : Answer → OfInput Answer
one_answer a c board trace k e allowance = a

-- keeps the image, which is well shaped, and is right in all else
pub keeps_image : OfInput Answer
keeps_image c board trace k e allowance =
    let a = step_call c board trace k e allowance in
    record { refusal = a.refusal; units = a.units; items = a.items; bound = a.bound; board = board; trace = a.trace }

-- starts the chart, then only pretends to step
pub only_starts : OfInput Answer
only_starts c board trace k e allowance =
    when not_started (part board k) then step_call c board trace k e allowance else keeps_image c board trace k e allowance

-- invents the units, by whatever law, and is right in all else
pub invents_units : OfInput ℕ → OfInput Answer
invents_units law c board trace k e allowance =
    let a = step_call c board trace k e allowance in
    let u = law c board trace k e allowance in
    record { refusal = a.refusal; units = u; items = a.items; bound = a.bound; board = a.board; trace = a.trace }

-- ── the inputs: event 1 on the fresh lift of chart A, and on the started one ──

abbrev fresh_board : Board
fresh_board = board_after chart_a []

abbrev started_board : Board
started_board = board_after chart_a (1 ∷ [])

abbrev fresh : {A : Type 0} → OfInput A → A
fresh f = f chart_a fresh_board (lent 1024) 0 1 1000000

abbrev started : {A : Type 0} → OfInput A → A
started f = f chart_a started_board (lent 1024) 0 1 1000000

-- the third event of a chart with two
abbrev unknown : {A : Type 0} → OfInput A → A
unknown f = f chart_a fresh_board (lent 1024) 0 3 1000000

-- the byte with the first active bits
abbrev bits : Observed → ℕ
bits o = byte o.board 2

-- ── what a host observes there ──

fresh-bits-before : byte fresh_board 2 ≡ 0
unfolding opened
fresh-bits-before = refl

fresh-bits : bits (observed (fresh step_call)) ≡ 3
unfolding opened
fresh-bits = refl

fresh-answer : (observed (fresh step_call)).answer ≡ 262656
unfolding opened
fresh-answer = refl

unknown-answer : (observed (unknown step_call)).answer ≡ 14
unfolding opened
unknown-answer = refl

started-bits : bits (observed (started step_call)) ≡ 5
unfolding opened
started-bits = refl

kept-bits : bits (observed (started keeps_image)) ≡ 3
unfolding opened keeps_image
kept-bits = refl

pretended-bits : bits (observed (started only_starts)) ≡ 3
unfolding opened keeps_image only_starts
pretended-bits = refl

started-units : (started step_call).units ≡ 6
unfolding opened
started-units = refl

-- ── none meets the contract ──

-- it changes no byte, and the step of a fresh lift does
pub refuses-too-much : (why : OfInput ℕ) → Meets (refuses_everything why) → ⊥
unfolding refuses_everything number_only observed
refuses-too-much why meets =
    let h : byte fresh_board 2 ≡ 3 = ap bits (meets chart_a fresh_board (lent 1024) 0 1 1000000) ∙ fresh-bits in
    omega (arith, fresh-bits-before)

pub answers-once : (a : Answer) → Meets (one_answer a) → ⊥
unfolding one_answer
answers-once a meets =
    let h : (observed a).answer ≡ 262656 = ap (λ (o : Observed). o.answer) (meets chart_a fresh_board (lent 1024) 0 1 1000000) ∙ fresh-answer in
    let g : (observed a).answer ≡ 14 = ap (λ (o : Observed). o.answer) (meets chart_a fresh_board (lent 1024) 0 3 1000000) ∙ unknown-answer in
    omega arith

pub keeps-image : Meets keeps_image → ⊥
keeps-image meets =
    let h : ◌≡◌ {A = ℕ} 3 5 = sym kept-bits ∙ ap bits (meets chart_a started_board (lent 1024) 0 1 1000000) ∙ started-bits in
    omega arith

pub only-starts : Meets only_starts → ⊥
only-starts meets =
    let h : ◌≡◌ {A = ℕ} 3 5 = sym pretended-bits ∙ ap bits (meets chart_a started_board (lent 1024) 0 1 1000000) ∙ started-bits in
    omega arith

-- an engine that meets the contract has the rules' units at every input: one that has others at some input does not meet it
module _ (law : OfInput ℕ) (meets : Meets (invents_units law)) where
  pub units-are-the-rules : (c : Chart) (board : Board) (trace : Bytes) (k e allowance : ℕ)
      → law c board trace k e allowance ≡ (step_call c board trace k e allowance).units
  unfolding invents_units observed packed
  units-are-the-rules c board trace k e allowance =
      let h = ap (λ (o : Observed). o.answer) (meets c board trace k e allowance) in
      omega (arith, h)

-- so one that tells another number than 6 for chart A's second step
pub invents-units : (law : OfInput ℕ) → (started law ≡ 6 → ⊥) → Meets (invents_units law) → ⊥
invents-units law other meets =
    other (units-are-the-rules law meets chart_a started_board (lent 1024) 0 1 1000000 ∙ started-units)
