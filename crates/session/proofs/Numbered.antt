-- A line as it is put: its first number, others behind it, and its end; and that each has room. Assumes nothing.
use mathlib.Core.Path.{◌≡◌, ap, ◌∙◌}
use mathlib.Core.List.{List, [], ◌∷◌, ◌++◌, append_assoc, append-nil}
use Prim.Native.Nat.{ℕ, ◌+◌, ◌*◌, ◌≤◌}
use native.Mathlib.Omega.{arith}
use lib.ListN.{length, length-append}
use Rattle.rules.specs.Bytes.{Bytes, ascii}
use Rattle.rules.specs.Session.{decimal, line}
use Rattle.session.specs.Said.{spaced}
use Rattle.session.proofs.Texts.{decimal-room, spaced-room, spaced-one, spaced-append, line-spaced}

-- a number stands at the start, with others behind it
pub record Numbered (n : ℕ) (ns : List ℕ) (text : Bytes) : Type 0 where
  pub put : text ≡ decimal 20 n ++ spaced ns

pub first : (n : ℕ) {empty text : Bytes} → empty ≡ [] → text ≡ empty ++ decimal 20 n → Numbered n [] text
unfolding spaced
first n e p = record { put = p ∙ rw (e, append-nil (decimal 20 n)) }

module _ {n : ℕ} {ns : List ℕ} {text : Bytes} (so : Numbered n ns text) where
  pub room : length text ≤ 20 + 21 * length ns
  room = omega (arith, ap length so.put, length-append (decimal 20 n) (spaced ns), decimal-room 20 n, spaced-room ns)

  pub others : (ks : List ℕ) {all : Bytes} → all ≡ text ++ spaced ks → Numbered n (ns ++ ks) all
  others ks p =
      record { put = p ∙ rw (so.put, spaced-append ns ks) (append_assoc (decimal 20 n) (spaced ns) (spaced ks)) }

  pub next : (k : ℕ) {all : Bytes} → all ≡ text ++ (ascii " " ++ decimal 20 k) → Numbered n (ns ++ (k ∷ [])) all
  next k p = others (k ∷ []) (p ∙ rw (spaced-one k))

  pub ended : {all : Bytes} → all ≡ text ++ ascii "\n" → all ≡ line (n ∷ ns)
  ended p = p ∙ rw (so.put, line-spaced n ns) (append_assoc (decimal 20 n) (spaced ns) (ascii "\n"))
