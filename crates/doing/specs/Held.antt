-- What a step holds, as the rules have it. Assumes nothing.
use Rattle.std.specs.Prelude.{◌≡◌, List, ◌++◌, ℕ, ◌-◌, length, take, replicate}
use Rattle.rules.specs.Image.{Image}
use Rattle.rules.specs.Doing.{Now, Doing, note_in}
use Rattle.doing.specs.declared.Counts.{Counts}
use Rattle.doing.specs.declared.Now.{Now as CodeNow}

-- an image, a trace of words whose length is the room for items, and the counts; an item past the trace's end would be 0,
-- so that a Now tells how many there are
abbrev pub now_of : Image → List ℕ → Counts → Now
now_of im tr k =
    record { image = im; units = k.units; room = length tr - k.items; trace = take k.items tr ++ replicate (k.items - length tr) 0 }

abbrev pub held : CodeNow → Now
held n = now_of n.image.now n.trace.now n.counts

-- the same slices are lent to the one as to the other, and are as long
pub record Same (a b : CodeNow) : Type 0 where
  pub image : b.image.ghost_name ≡ a.image.ghost_name
  pub trace : b.trace.ghost_name ≡ a.trace.ghost_name
  pub image_length : length b.image.now ≡ length a.image.now
  pub trace_length : length b.trace.now ≡ length a.trace.now

-- a word is noted, or 20: the rules' `note` of the act and number that it tells
unfoldable pub noted : ℕ → Doing (Unit {0})
noted word n = note_in n.room word n
