-- The three calls, whole: what each answers, and every lent byte afterwards. Assumes nothing.
use Rattle.std.specs.Prelude.{Bool, ◌&&◌, List, [], ◌∷◌, ◌++◌, ℕ, zero, suc, ◌+◌, ◌-◌, ◌*◌, leb, length, take, drop}
use Rattle.rules.specs.Bytes.{Bytes, bytes_of}
use Rattle.rules.specs.Lists.{within, ◌else◌}
use Rattle.rules.specs.Chart.{Chart, events}
use Rattle.rules.specs.Accept.{◌unless◌next◌, chart_refusal}
use Rattle.rules.specs.Image.{Image, image_size, accepted, fresh_image}
use Rattle.rules.specs.Doing.{Refusal, because, Now, Outcome, refused, went, most_units, item_size, room_of}
use Rattle.rules.specs.Run.{step}
use Rattle.rules.specs.Bound.{bound_refusal, bound}

abbrev pub Board : Type 0
Board = Bytes

-- lift k's part of the board, and the board with another part there
unfoldable pub part : Board → ℕ → Image
part board k = take image_size (drop (image_size * k) board)

unfoldable pub with_part : Board → ℕ → Image → Board
with_part board k im = take (image_size * k) board ++ im ++ drop (image_size * k + image_size) board

-- a board of n bytes has lift k's part, else 12
abbrev pub has_part : ℕ → ℕ → Bool
has_part n k = leb k 63 && leb (image_size * k + image_size) n

unfoldable pub part_refusal : Board → ℕ → ℕ
part_refusal board k = 12 unless has_part (length board) k next 0

-- what a call answers, and what it leaves of the board and the trace that it was lent
pub record Answer : Type 0 where
  pub refusal : Refusal
  pub units : ℕ
  pub items : ℕ
  pub bound : ℕ
  pub board : Board
  pub trace : Bytes

-- the refusal's number with zero units, items and bound
unfoldable pub number_only : Refusal → Board → Bytes → Answer
number_only r board trace = record { refusal = r; units = 0; items = 0; bound = 0; board = board; trace = trace }

-- what a call answers by what its tests gave: the refusal of that number, or with 0 the answer of a call that passed them
unfoldable pub unless_refused : ℕ → Board → Bytes → Answer → Answer
unless_refused zero board trace answer = answer
unless_refused (suc r) board trace answer = number_only (because (suc r)) board trace

unfoldable pub fresh_call : Chart → Board → ℕ → Answer
fresh_call c board k =
    unless_refused (chart_refusal c else part_refusal board k) board [] (number_only (because 0) (with_part board k (fresh_image c)) [])

unfoldable pub bound_call : Chart → Answer
bound_call c =
    unless_refused (chart_refusal c else bound_refusal c) [] []
    (record { refusal = because 0; units = 0; items = 0; bound = bound c; board = []; trace = [] })

unfoldable pub step_refusal : Chart → Board → ℕ → ℕ → ℕ → ℕ
step_refusal c board k e allowance =
    chart_refusal c else part_refusal board k
    else (13 unless accepted (part board k) c next
    14 unless within 1 (events c) e next
    15 unless leb allowance most_units next 0)

unfoldable pub begin : Image → Bytes → ℕ → Now
begin im trace allowance = record { image = im; units = allowance; room = room_of (length trace); trace = [] }

unfoldable pub item_bytes : List ℕ → Bytes
item_bytes [] = []
item_bytes (i ∷ is) = bytes_of item_size i ++ item_bytes is

-- a step, by how it went
unfoldable pub step_answer : Board → Bytes → ℕ → ℕ → Outcome (Unit {0}) → Answer
step_answer board trace k allowance (refused r) = number_only r board trace
step_answer board trace k allowance (went u n) =
    record {
      refusal = because 0;
      units = allowance - n.units;
      items = length n.trace;
      bound = 0;
      board = with_part board k n.image;
      trace = item_bytes n.trace ++ drop (item_size * length n.trace) trace;
    }

unfoldable pub step_call : Chart → Board → Bytes → ℕ → ℕ → ℕ → Answer
step_call c board trace k e allowance =
    unless_refused (step_refusal c board k e allowance) board trace
    (step_answer board trace k allowance (step c e (begin (part board k) trace allowance)))

-- what a host observes of a call: one number, and its lent bytes
pub record Observed : Type 0 where
  pub answer : ℕ
  pub board : Board
  pub trace : Bytes

-- a step has no bound, and the bound no items: their place in the number is one
unfoldable pub packed : Answer → ℕ
packed a = a.refusal.number + 256 * (a.items + a.bound) + 131072 * a.units

unfoldable pub observed : Answer → Observed
observed a = record { answer = packed a; board = a.board; trace = a.trace }
