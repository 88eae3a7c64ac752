-- What a writer holds grows text by text; with what is still to be said, the texts are the whole. Assumes nothing.
use mathlib.Core.Path.{◌≡◌, refl, sym, ap, ◌∙◌}
use mathlib.Core.List.{[], ◌++◌, append_assoc, append-nil}
use native.Mathlib.Omega.{arith}
use lib.ListN.{length, take}
use lib.Seq.{length-take-le, take-take, take-append-add}
use borrow.Rule.Slice.PartMut.{put_mid}
use Rattle.std.proofs.lemmas.Slice.{take-put_mid}
use Rattle.std.specs.declared.option.Option.{Option}
use Rattle.std.specs.Prelude.{None, Some, ℕ, ◌+◌, ◌≤◌}
use Rattle.std.specs.Io.KnownBytes.{Appends, Consumes}
use Rattle.rules.specs.Bytes.{Bytes}
use Rattle.session.specs.Said.{Taken, Adds}

pub appends-then : (a b c : Option Bytes) (xs ys : Bytes) → Appends a b xs → Appends b c ys → Appends a c (xs ++ ys)
appends-then None b c xs ys p q = tt
appends-then (Some x) None c xs ys p q = absurd p
appends-then (Some x) (Some y) None xs ys p q = absurd q
appends-then (Some x) (Some y) (Some z) xs ys p q = q ∙ ap (λ k. k ++ ys) p ∙ append_assoc x xs ys

appends-nothing : (a : Option Bytes) → Appends a a []
appends-nothing None = tt
appends-nothing (Some x) = sym (append-nil x)

-- what a reader gives in turn it gives, and of what it had left it is the front
pub consumes-then : (a b c : Option Bytes) (xs ys : Bytes) → Consumes a b xs → Consumes b c ys → Consumes a c (xs ++ ys)
consumes-then None b c xs ys p q = tt
consumes-then (Some x) None c xs ys p q = absurd p
consumes-then (Some x) (Some y) None xs ys p q = absurd q
consumes-then (Some x) (Some y) (Some z) xs ys p q = p ∙ ap (λ k. xs ++ k) q ∙ sym (append_assoc xs ys z)

-- a part that is read into stands behind what was there
pub take-read : (at k n : ℕ) (bytes part : Bytes) → at ≤ length bytes → n ≤ length part
    → take (at + n) (put_mid at k bytes part) ≡ take at bytes ++ take n part
take-read at k n bytes part h l =
    let front : take (at + length part) (put_mid at k bytes part) ≡ take at bytes ++ part =
    take-put_mid at k bytes part (at + length part) refl h in
    let size : length (take at bytes) ≡ at = length-take-le at bytes h in
    sym (take-take (at + n) (at + length part) (put_mid at k bytes part) (omega arith))
    ∙ ap (take (at + n)) front
    ∙ ap (λ m. take (m + n) (take at bytes ++ part)) (sym size)
    ∙ take-append-add (take at bytes) part n

-- texts that are all taken, one behind the other
pub adds-then : (a b c : Taken) (xs ys : Bytes) → Adds a b xs → Adds b c ys → Adds a c (xs ++ ys)
adds-then a b c xs ys p q so =
    let later = q so in
    let first = p later.0 in
    (first.0, appends-then a.contents b.contents c.contents xs ys first.1 later.1)

-- a text was written, and with the rest it is the whole
pub record Written (a b : Taken) (whole rest : Bytes) : Type 0 where
  pub text : Bytes
  pub adds : Adds a b text
  pub is : text ++ rest ≡ whole

pub begun : (a : Taken) (whole : Bytes) → Written a a whole whole
begun a whole = record { text = []; adds = λ so. (so, appends-nothing a.contents); is = refl }

module _ {a b : Taken} {whole rest : Bytes} (so : Written a b whole rest) where
  pub more : (c : Taken) (new rest' : Bytes) → Adds b c new → rest ≡ new ++ rest' → Written a c whole rest'
  more c new rest' p e =
      record {
        text = so.text ++ new;
        adds = adds-then a b c so.text new so.adds p;
        is = append_assoc so.text new rest' ∙ ap (λ k. so.text ++ k) (sym e) ∙ so.is;
      }

  pub done : rest ≡ [] → Adds a b whole
  done e = rw (ap (λ k. so.text ++ k) (sym e) ∙ so.is) at (rw (sym (append-nil so.text)) at so.adds)

  pub ended : (c : Taken) → Adds b c rest → Adds a c whole
  ended c p = rw so.is at (adds-then a b c so.text rest so.adds p)
