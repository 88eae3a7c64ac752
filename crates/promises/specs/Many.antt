-- Many calls on one board, and what is promised of a lift after them, in the words of the demands. Assumes nothing.
use Rattle.std.specs.Prelude.{◌≡◌, ◌⊎◌, true, false, List, [], ◌∷◌, ℕ, ◌+◌, ◌*◌, ◌/◌, ◌%◌, ◌≤◌, ◌<◌, length}
use Rattle.rules.specs.Bytes.{Bytes}
use Rattle.rules.specs.Lists.{keep}
use Rattle.rules.specs.Chart.{State, Chart, states, kind, children}
use Rattle.rules.specs.Image.{Image, image_size, is_active}
use Rattle.rules.specs.Calls.{Board, Answer, fresh_call, bound_call, step_call, packed}

-- a call on a board: any chart, lift, event and allowance, any trace bytes lent
pub data Call : Type 0 where
  fresh : (c : Chart) (lift : ℕ) → Call
  step : (c : Chart) (trace : Bytes) (lift event allowance : ℕ) → Call
  bound : (c : Chart) → Call

-- what it answers
abbrev pub answer : Call → Board → Answer
answer (fresh c k) board = fresh_call c board k
answer (step c trace k e allowance) board = step_call c board trace k e allowance
answer (bound c) board = bound_call c

-- it goes: it is not refused
abbrev pub Goes : Call → Board → Type 0
Goes x board = (answer x board).refusal.number ≡ 0

-- the board after it, refused or not; the bound call is lent none
abbrev pub after_call : Call → Board → Board
after_call (fresh c k) board = (fresh_call c board k).board
after_call (step c trace k e allowance) board = (step_call c board trace k e allowance).board
after_call (bound c) board = board

-- the board after calls, one after the other
abbrev pub after_calls : List Call → Board → Board
after_calls [] board = board
after_calls (x ∷ xs) board = after_calls xs (after_call x board)

abbrev pub chart_of : Call → Chart
chart_of (fresh c k) = c
chart_of (step c trace k e allowance) = c
chart_of (bound c) = c

-- the call is for lift k; it is a fresh call for lift k
abbrev pub IsFor : ℕ → Call → Type 0
IsFor k (fresh c j) = j ≡ k
IsFor k (step c trace j e allowance) = j ≡ k
IsFor k (bound c) = ⊥

abbrev pub IsFresh : ℕ → Call → Type 0
IsFresh k (fresh c j) = j ≡ k
IsFresh k (step c trace j e allowance) = ⊥
IsFresh k (bound c) = ⊥

-- P holds of each of the calls that goes, on the board as it is then
abbrev pub EachThatGoes : (Call → Type 0) → List Call → Board → Type 0
EachThatGoes P [] board = Unit {0}
EachThatGoes P (x ∷ xs) board = (Goes x board → P x) × EachThatGoes P xs (after_call x board)

-- lift k is kept on chart c: each call for it that goes has that chart
abbrev pub KeptOn : Chart → ℕ → List Call → Board → Type 0
KeptOn c k = EachThatGoes (λ x. IsFor k x → chart_of x ≡ c)

-- no call that goes makes lift k fresh
abbrev pub NotMadeFresh : ℕ → List Call → Board → Type 0
NotMadeFresh k = EachThatGoes (λ x. IsFresh k x → ⊥)

-- no call that goes is for lift k
abbrev pub LeftAlone : ℕ → List Call → Board → Type 0
LeftAlone k = EachThatGoes (λ x. IsFor k x → ⊥)

-- how many children of s are active
unfoldable pub active_children : Chart → Image → State → ℕ
active_children c im s = length (keep (is_active im) (children c s))

-- demand 3's shape
pub record WellShaped (c : Chart) (im : Image) : Type 0 where
  -- the root is active
  pub root : is_active im 0 ≡ true
  -- exactly one active child under each active one-of state
  pub one_of : (s : State) → s < states c → is_active im s ≡ true → kind c s ≡ 1 → active_children c im s ≡ 1
  -- every child under each active all-of state
  pub all_of : (s : State) → s < states c → is_active im s ≡ true → kind c s ≡ 2 → active_children c im s ≡ length (children c s)
  -- none under an inactive state
  pub inactive : (s : State) → s < states c → is_active im s ≡ false → active_children c im s ≡ 0

-- byte i of a board stands outside lift k's part
abbrev pub Outside : ℕ → ℕ → Type 0
Outside k i = (i < image_size * k) ⊎ (image_size * k + image_size ≤ i)

-- what the header's `afraulenc_unpack` takes out of a step's answer
abbrev pub Unpacked : Answer → Type 0
Unpacked a = (packed a % 256 ≡ a.refusal.number) × (packed a / 256 % 512 ≡ a.items) × (packed a / 131072 ≡ a.units)
