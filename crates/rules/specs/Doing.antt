-- Doing: what goes on or is refused, with the image, the units and the room left, the items so far. Assumes nothing.
use Rattle.std.specs.Prelude.{List, [], ◌∷◌, ◌++◌, ℕ, zero, suc, ◌+◌, ◌*◌, ◌/◌, min}
use Rattle.rules.specs.Lists.{when◌then◌else◌}
use Rattle.rules.specs.Chart.{State}
use Rattle.rules.specs.Image.{Image, is_active}

-- why a call is refused; 0 where it is not
pub record Refusal : Type 0 where
  pub number : ℕ

-- the one place where a refusal is made
unfoldable pub because : ℕ → Refusal
because k = record { number = k }

pub record Now : Type 0 where
  pub image : Image
  pub units : ℕ
  pub room : ℕ
  pub trace : List ℕ

pub data Outcome (A : Type 0) : Type 0 where
  refused : Refusal → Outcome A
  went : A → Now → Outcome A

abbrev pub Doing : Type 0 → Type 0
Doing A = Now → Outcome A

abbrev pub Done : Type 0
Done = Doing (Unit {0})

unfoldable pub give : {A : Type 0} → A → Doing A
give a = λ n. went a n

unfoldable pub done : Done
done = give tt

unfoldable pub refuse : {A : Type 0} → ℕ → Doing A
refuse k = λ n. refused (because k)

-- what follows an outcome: a refusal ends all
abbrev pub after : {A B : Type 0} → Outcome A → (A → Doing B) → Outcome B
after (refused r) f = refused r
after (went a n) f = f a n

infixl 10 ◌>>=◌
infixl 10 ◌>>◌
unfoldable pub ◌>>=◌ : {A B : Type 0} → Doing A → (A → Doing B) → Doing B
◌>>=◌ m f = λ n. after (m n) f

unfoldable pub ◌>>◌ : {A B : Type 0} → Doing A → Doing B → Doing B
◌>>◌ m f = λ n. after (m n) (λ _. f)

-- the image as it is, and a change of it
unfoldable pub look : Doing Image
look = λ n. went n.image n

unfoldable pub change : (Image → Image) → Done
change f = λ n. went tt (record { image = f n.image; units = n.units; room = n.room; trace = n.trace })

-- the largest allowance, and the largest bound
abbrev pub most_units : ℕ
most_units = 1000000

-- one unit is paid, or 16
abbrev pub pay_from : ℕ → Done
pay_from zero n = refused (because 16)
pay_from (suc u) n = went tt (record { image = n.image; units = u; room = n.room; trace = n.trace })

unfoldable pub pay : Done
pay = λ n. pay_from n.units n

-- what a trace item tells: kind x 65,536 + number
pub data Act : Type 0 where
  state_entered state_left during_point segment_passed transition_performed output_raised : Act

abbrev pub item_of : Act → ℕ → ℕ
item_of state_entered n = 1 * 65536 + n
item_of state_left n = 2 * 65536 + n
item_of during_point n = 3 * 65536 + n
item_of segment_passed n = 4 * 65536 + n
item_of transition_performed n = 5 * 65536 + n
item_of output_raised n = 6 * 65536 + n

-- an item is four bytes; the room for items in n lent bytes
abbrev pub item_size : ℕ
item_size = 4

abbrev pub room_of : ℕ → ℕ
room_of n = min 256 (n / item_size)

-- one item is noted, or 20
abbrev pub note_in : ℕ → ℕ → Done
note_in zero i n = refused (because 20)
note_in (suc r) i n = went tt (record { image = n.image; units = n.units; room = r; trace = n.trace ++ (i ∷ []) })

unfoldable pub note : Act → ℕ → Done
note act number = λ n. note_in n.room (item_of act number) n

-- for each of a list in turn
unfoldable pub each : (ℕ → Done) → List ℕ → Done
each f [] = done
each f (x ∷ xs) = f x >> each f xs

unfoldable pub when_active : State → Done → Done
when_active s m = λ n. when is_active n.image s then m n else done n
