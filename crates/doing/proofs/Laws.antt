-- The rules' doings at what the code holds: a unit paid or not, an item noted or not, and what is done for each of a list in
-- turn. Assumes nothing.
use mathlib.Core.Path.{◌≡◌, refl, sym}
use mathlib.Core.List.{List, [], ◌∷◌, append-nil}
use Prim.Native.Nat.{ℕ, zero, suc, ◌+◌, ◌-◌, ◌≤◌, ◌<◌}
use native.Mathlib.Omega.{arith}
use native.Mathlib.Numerals.{add-one}
use lib.ListN.{length, take, set, length-set}
use lib.Seq.{take-suc-set}
use Rattle.rules.specs.Image.{Image}
use Rattle.rules.specs.Doing as rules
use Rattle.rules.specs.Doing.{Act, item_of, because, Now, Outcome, refused, went, each}
use Rattle.doing.specs.Held.{now_of, noted}
use Rattle.doing.specs.declared.Counts.{Counts}

pub pay-unpaid : (im : Image) (tr : List ℕ) (k : Counts) → k.units ≡ 0 → refused (because 16) ≡ rules.pay (now_of im tr k)
unfolding rules.pay
pay-unpaid im tr k e = rw e refl

pub pay-paid : (im : Image) (tr : List ℕ) (k : Counts) → (k.units ≡ 0 → ⊥)
    → went tt (now_of im tr (record { units = k.units - 1; items = k.items })) ≡ rules.pay (now_of im tr k)
unfolding rules.pay
pay-paid im tr k h = paid k.units h
  where
    less_one : (u : ℕ) → suc u - 1 ≡ u
    less_one u = omega arith

    paid : (u : ℕ) → (u ≡ 0 → ⊥)
        → went tt (now_of im tr (record { units = u - 1; items = k.items })) ≡ rules.pay (now_of im tr (record { units = u; items = k.items }))
    paid zero h = absurd (h refl)
    paid (suc u) h = rw (less_one u) refl

pub note-full : (im : Image) (tr : List ℕ) (k : Counts) (word : ℕ) → length tr ≤ k.items
    → refused (because 20) ≡ noted word (now_of im tr k)
unfolding noted
note-full im tr k word h =
    let none : length tr - k.items ≡ 0 = omega arith in
    rw none refl

-- with room, nothing is past the trace's end, before and after
pub note-goes : (im : Image) (tr : List ℕ) (k : Counts) (word : ℕ) → k.items < length tr
    → went tt (now_of im (set tr k.items word) (record { units = k.units; items = k.items + 1 }))
    ≡ noted word (now_of im tr k)
unfolding noted
note-goes im tr k word h =
    let more : length tr - k.items ≡ suc (length tr - (k.items + 1)) = omega arith in
    let before : k.items - length tr ≡ 0 = omega arith in
    let after : k.items + 1 - length tr ≡ 0 = omega arith in
    rw (more, length-set, before, after, append-nil, append-nil (take k.items tr), add-one k.items, take-suc-set tr k.items word h) refl

-- a word that tells an act is the rules' item
pub as-noted : {o : Outcome (Unit {0})} {word : ℕ} (act : Act) (n : ℕ) (now : Now) → word ≡ item_of act n
    → o ≡ noted word now → o ≡ rules.note act n now
unfolding noted rules.note
as-noted act n now e told = rw e at told

-- for each of a list in turn, by what the first one does
pub each_none : (f : ℕ → rules.Done) (n : Now) → each f [] n ≡ went tt n
unfolding each rules.done rules.give
each_none f n = refl

pub each-went : (f : ℕ → rules.Done) (x : ℕ) (xs : List ℕ) (n : Now) {n' : Now} → f x n ≡ went tt n'
    → each f (x ∷ xs) n ≡ each f xs n'
unfolding each rules.◌>>◌
each-went f x xs n e = rw e refl
