-- The image under its changes: what each does to the active bits, the records and the rest. All that makes an image accepted but
-- its shape is sound, and every change that the rules make keeps that. Assumes nothing.
use mathlib.Core.Path.{◌≡◌, refl, ◌∙◌}
use mathlib.Core.Logic.{◌⊎◌, inr}
use mathlib.Core.Bool.{Bool, true, false}
use Prim.Native.Nat.{ℕ, zero, suc, ◌+◌, ◌*◌, ◌/◌, ◌%◌, ◌≤◌, ◌<◌}
use native.Mathlib.Decide.{ℕ_discrete}
use native.Mathlib.Omega.{arith}
use lib.ListN.{length, set, length-set}
use lib.Seq.{get_or-set_same, get_or-set_other}
use lib.IntN.{ℤ}
use Rattle.rules.specs.Bytes.{byte, field, bit, bit_on, bit_off}
use Rattle.rules.specs.Chart.{Chart, states, variables, keeps_history}
use Rattle.rules.specs.Accept.{marked}
use Rattle.rules.specs.Image.{Image, is_active, recorded, activate, deactivate, record_child, set_variable}
use Rattle.rules.proofs.Taken.{Child, Tree}
use Rattle.rules.proofs.Puts.{length-put, put_other}
use Rattle.rules.proofs.Bits.{on-bit-same, on-bit-other, off-bit-same, off-bit-other}

-- im' is im but for the places from lo up to hi
record Apart (lo hi : ℕ) (im im' : Image) : Type 0 where
  size : length im' ≡ length im
  rest : (i : ℕ) → ((lo ≤ i) × (i < hi) → ⊥) → byte im' i ≡ byte im i

set_apart : (im : Image) (i v : ℕ) → Apart i (i + 1) im (set im i v)
set_apart im i v =
    record {
      size = length-set im i v;
      rest = λ j h. get_or-set_other im i j v 0 (λ q. h (omega arith));
    }

variable-apart : (im : Image) (v : ℕ) (z : ℤ) → Apart (74 + 4 * v) (74 + 4 * v + 4) im (set_variable im v z)
unfolding set_variable
variable-apart im v z = record { size = length-put 4 im (74 + 4 * v) _; rest = put_other 4 im (74 + 4 * v) _ }

field_apart : {lo hi : ℕ} {im im' : Image} → Apart lo hi im im' → (w i : ℕ) → hi ≤ i → field w im' i ≡ field w im i
field_apart a zero i h = refl
field_apart a (suc w) i h = rw (a.rest i (omega arith), field_apart a w (i + 1) (omega arith))

active-apart : {lo hi : ℕ} {im im' : Image} → Apart lo hi im im' → 10 ≤ lo → (t : ℕ) → t < 64 → is_active im' t ≡ is_active im t
active-apart a l t h = rw (a.rest (2 + t / 8) (omega arith))

-- the image after a change f of the bit of state s
abbrev with_bit : (ℕ → ℕ → ℕ) → Image → ℕ → Image
with_bit f im s = set im (2 + s / 8) (f (byte im (2 + s / 8)) (s % 8))

module _ (im : Image) (z : length im ≡ 202) where
  bit-same : (f : ℕ → ℕ → ℕ) (on : Bool) → ((b k : ℕ) → bit (f b k) k ≡ on) → (s : ℕ) → s < 64 → is_active (with_bit f im s) s ≡ on
  bit-same f on law s h = let l : 2 + s / 8 < length im = omega arith in rw get_or-set_same (law _ _)

  -- another state's bit, in the same byte or in another
  bit-other : (f : ℕ → ℕ → ℕ) → ((b k j : ℕ) → (j ≡ k → ⊥) → bit (f b k) j ≡ bit b j) → (s t : ℕ) → s < 64 → (t ≡ s → ⊥)
      → is_active (with_bit f im s) t ≡ is_active im t
  bit-other f law s t h d =
      elim (ℕ_discrete (t / 8) (s / 8)) [
        | yes e ↦ let l : 2 + s / 8 < length im = omega arith in rw (e, get_or-set_same) (law _ _ (t % 8) (omega arith))
        | no e ↦ let n : 2 + t / 8 ≡ 2 + s / 8 → ⊥ = omega arith in rw get_or-set_other
      ]

  pub on_same : (s : ℕ) → s < 64 → is_active (activate im s) s ≡ true
  on_same = bit-same bit_on true on-bit-same

  pub off-same : (s : ℕ) → s < 64 → is_active (deactivate im s) s ≡ false
  off-same = bit-same bit_off false off-bit-same

  pub on-other : (s t : ℕ) → s < 64 → (t ≡ s → ⊥) → is_active (activate im s) t ≡ is_active im t
  on-other = bit-other bit_on on-bit-other

  pub off-other : (s t : ℕ) → s < 64 → (t ≡ s → ⊥) → is_active (deactivate im s) t ≡ is_active im t
  off-other = bit-other bit_off off-bit-other

-- what may be recorded of a state: nothing, or a child where it keeps history
abbrev pub Recordable : Chart → ℕ → ℕ → Type 0
Recordable c s r = (r ≡ 0) ⊎ ((keeps_history c s ≡ true) × Child c s r)

-- all that makes an image accepted, but for its shape
pub record Sound (c : Chart) (im : Image) : Type 0 where
  pub size : length im ≡ 202
  pub mark : marked im "IM" 0 ≡ true
  pub no_state : (s : ℕ) → states c ≤ s → s < 64 → is_active im s ≡ false
  pub no_record : (s : ℕ) → states c ≤ s → s < 64 → recorded im s ≡ 0
  pub no_variable : (v : ℕ) → variables c ≤ v → v < 32 → field 4 im (74 + 4 * v) ≡ 0
  pub records : (s : ℕ) → s < states c → Recordable c s (recorded im s)

module _ (c : Chart) (tr : Tree c) where
  -- A change past the mark that meets no variable and no record beyond the chart's. It is sound if the bits beyond the chart's
  -- stay, and its records are recordable.
  changed-sound : {lo hi : ℕ} {im im' : Image} → Apart lo hi im im' → Sound c im → 2 ≤ lo → hi ≤ 74 + 4 * variables c
      → ((s : ℕ) → states c ≤ s → s < 64 → (lo ≤ 10 + s) × (10 + s < hi) → ⊥)
      → ((s : ℕ) → states c ≤ s → s < 64 → is_active im' s ≡ is_active im s)
      → ((s : ℕ) → s < states c → Recordable c s (recorded im' s)) → Sound c im'
  unfolding marked
  changed-sound a so l h away active right =
      record {
        size = a.size ∙ so.size;
        mark = rw (a.rest 0 (omega arith), a.rest 1 (omega arith)) so.mark;
        no_state = λ s p q. active s p q ∙ so.no_state s p q;
        no_record = λ s p q. a.rest (10 + s) (away s p q) ∙ so.no_record s p q;
        no_variable = λ v p q. field_apart a 4 (74 + 4 * v) (omega arith) ∙ so.no_variable v p q;
        records = right;
      }

  bit-sound : (f : ℕ → ℕ → ℕ) → ((b k j : ℕ) → (j ≡ k → ⊥) → bit (f b k) j ≡ bit b j) → (im : Image) (s : ℕ) → s < states c
      → Sound c im → Sound c (with_bit f im s)
  bit-sound f law im s h so =
      let a = set_apart im (2 + s / 8) (f (byte im (2 + s / 8)) (s % 8)) in
      changed-sound a so (omega arith) (omega arith) (omega arith)
      (λ t p q. bit-other im so.size f law s t (omega arith) (omega arith))
      (λ t p. rw (a.rest (10 + t) (omega arith)) (so.records t p))

  pub activate-sound : (im : Image) (s : ℕ) → s < states c → Sound c im → Sound c (activate im s)
  activate-sound = bit-sound bit_on on-bit-other

  pub deactivate-sound : (im : Image) (s : ℕ) → s < states c → Sound c im → Sound c (deactivate im s)
  deactivate-sound = bit-sound bit_off off-bit-other

  pub record-active : (im : Image) (p k t : ℕ) → t < 64 → is_active (record_child im p k) t ≡ is_active im t
  record-active im p k = active-apart (set_apart im (10 + p) k) (omega arith)

  pub record-sound : (im : Image) (p k : ℕ) → p < states c → keeps_history c p ≡ true → Child c p k → Sound c im
      → Sound c (record_child im p k)
  record-sound im p k h kh ch so =
      let a = set_apart im (10 + p) k in
      changed-sound a so (omega arith) (omega arith) (omega arith) (λ s _ q. record-active im p k s q)
      (λ s l. elim (ℕ_discrete s p) [
        | yes e ↦ rw (e, get_or-set_same im (10 + p) k 0 (omega arith)) (inr (kh, ch))
        | no e ↦ rw (a.rest (10 + s) (omega arith)) (so.records s l)
      ])

  pub variable-active : (im : Image) (v : ℕ) (z : ℤ) (t : ℕ) → t < 64 → is_active (set_variable im v z) t ≡ is_active im t
  variable-active im v z = active-apart (variable-apart im v z) (omega arith)

  pub variable-sound : (im : Image) (v : ℕ) (z : ℤ) → v < variables c → Sound c im → Sound c (set_variable im v z)
  variable-sound im v z h so =
      let a = variable-apart im v z in
      changed-sound a so (omega arith) (omega arith) (omega arith) (λ s _ q. variable-active im v z s q)
      (λ s l. rw (a.rest (10 + s) (omega arith)) (so.records s l))
