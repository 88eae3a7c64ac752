-- One lift's image: its fields, when it is accepted, and the fresh image. Assumes nothing.
use Rattle.std.specs.Prelude.{Bool, ◌&&◌, ◌||◌, not, [], ◌∷◌, ◌++◌, ℕ, zero, suc, ◌+◌, ◌-◌, ◌*◌, ◌/◌, ◌%◌, eqb, length, set, replicate, ℤ}
use Rattle.rules.specs.Bytes.{Bytes, byte, field, put, bytes_of, signed, unsigned, bit, bit_on, bit_off, ascii}
use Rattle.rules.specs.Lists.{when◌then◌else◌, below, range, every, all, keep, is_in}
use Rattle.rules.specs.Chart.{State, Chart, most_states, most_variables, states, variables, initial_value, is_one_of, keeps_history, children}
use Rattle.rules.specs.Accept.{marked, zero_at}

abbrev pub Image : Type 0
Image = Bytes

abbrev pub image_size : ℕ
image_size = 202

-- where the active bits, the history and the variables start
abbrev pub active_at : ℕ
active_at = 2

abbrev pub history_at : ℕ
history_at = 10

abbrev pub values_at : ℕ
values_at = 74

module _ (im : Image) where
  abbrev pub is_active : State → Bool
  is_active s = bit (byte im (active_at + s / 8)) (s % 8)

  abbrev pub recorded : State → State
  recorded s = byte im (history_at + s)

  abbrev pub variable : ℕ → ℤ
  variable v = signed 4 (field 4 im (values_at + 4 * v))

  -- the image after a change of one place
  abbrev pub activate : State → Image
  activate s = set im (active_at + s / 8) (bit_on (byte im (active_at + s / 8)) (s % 8))

  abbrev pub deactivate : State → Image
  deactivate s = set im (active_at + s / 8) (bit_off (byte im (active_at + s / 8)) (s % 8))

  abbrev pub record_child : State → State → Image
  record_child p s = set im (history_at + p) s

  unfoldable pub set_variable : ℕ → ℤ → Image
  set_variable v z = put 4 im (values_at + 4 * v) (unsigned 4 z)

  -- the active bits are all zero with all history zero
  unfoldable pub not_started : Bool
  not_started = every (zero_at im) (range active_at values_at)

  module _ (c : Chart) where
    -- places beyond the chart's counts are zero
    unfoldable pub rest_zero : Bool
    rest_zero =
        every (λ s. not (is_active s) && eqb (recorded s) 0) (range (states c) most_states)
        && every (λ v. eqb (field 4 im (values_at + 4 * v)) 0) (range (variables c) most_variables)

    -- history is 0, or a child of s where s keeps history
    unfoldable pub history_sound : State → Bool
    history_sound s = eqb (recorded s) 0 || (keeps_history c s && is_in (recorded s) (children c s))

    -- demand 3's shape, at one state and whole: how many children are active
    unfoldable pub shape_at : State → Bool
    shape_at s =
        eqb (length (keep is_active (children c s)))
        (when is_active s then (when is_one_of c s then 1 else length (children c s)) else 0)

    unfoldable pub shape : Bool
    shape = is_active 0 && every shape_at (below (states c))

    unfoldable pub accepted : Bool
    accepted =
        all
        (eqb (length im) image_size ∷ marked im "IM" 0 ∷ rest_zero
        ∷ every history_sound (below (states c)) ∷ (not_started || shape) ∷ [])

-- the initial values of the first n variables
unfoldable pub initial_bytes : Chart → ℕ → Bytes
initial_bytes c zero = []
initial_bytes c (suc n) = initial_bytes c n ++ bytes_of 4 (initial_value c n)

unfoldable pub fresh_image : Chart → Image
fresh_image c =
    ascii "IM" ++ replicate (values_at - active_at) 0 ++ initial_bytes c (variables c) ++ replicate (4 * (most_variables - variables c)) 0
