-- Digits, numbers and items as texts: each behind the one before, and none longer than its room. Assumes nothing.
use mathlib.Core.Path.{◌≡◌, refl, sym, ap, ◌∙◌}
use mathlib.Core.Bool.{Bool, true, false}
use mathlib.Core.List.{List, [], ◌∷◌, ◌++◌, append_assoc, append-nil}
use Prim.Native.Nat.{ℕ, zero, suc, ◌+◌, ◌*◌, ◌/◌, ◌%◌, ◌-◌, ◌≤◌, ◌<◌}
use native.Mathlib.Omega.{arith}
use lib.Dec.{ltb}
use borrow.Author.Tests.{lt-ltb, le-ltb}
use lib.ListN.{length, drop, length-append}
use Rattle.rules.specs.Bytes.{Bytes, ascii, field}
use Rattle.rules.specs.Lists.{when◌then◌else◌}
use Rattle.rules.specs.Session.{decimal, line, items_in}
use Rattle.fields.proofs.Laws.{field-drop}
use Rattle.session.specs.Said.{spaced}

-- a number has at most the digits asked
pub decimal-room : (d n : ℕ) → length (decimal d n) ≤ d
unfolding decimal when◌then◌else◌
decimal-room zero n = omega arith
decimal-room (suc d) n = by-test (ltb n 10) (decimal-room d (n / 10))
  where
    by-test : (t : Bool) → length (decimal d (n / 10)) ≤ d
        → length ((when t then [] else decimal d (n / 10)) ++ ((48 + n % 10) ∷ [])) ≤ suc d
    by-test true h = omega arith
    by-test false h = omega (arith, length-append (decimal d (n / 10)) ((48 + n % 10) ∷ []), h)

pub no-digits : (d n : ℕ) → d ≡ 0 → decimal d n ≡ []
unfolding decimal
no-digits zero n e = refl
no-digits (suc d) n e = absurd (omega arith)

-- the digits before the last
abbrev pub before_last : ℕ → ℕ → Bytes
before_last d n = when ltb n 10 then [] else decimal (d - 1) (n / 10)

module _ (d n : ℕ) where
  pub none-before : n < 10 → before_last d n ≡ []
  unfolding when◌then◌else◌
  none-before h = rw (lt-ltb n 10 h)

  pub some-before : 10 ≤ n → before_last d n ≡ decimal (d - 1) (n / 10)
  unfolding when◌then◌else◌
  some-before h = rw (le-ltb n 10 h)

pub decimal-last : (d n : ℕ) → (d ≡ 0 → ⊥) → decimal d n ≡ before_last d n ++ ((48 + n % 10) ∷ [])
unfolding decimal
decimal-last zero n h = elim (h refl) [ ]
decimal-last (suc d) n h = let e : suc d - 1 ≡ d = omega arith in rw e

pub before-room : (d n : ℕ) → (d ≡ 0 → ⊥) → length (before_last d n) + 1 ≤ d
unfolding when◌then◌else◌
before-room d n h = by-test (ltb n 10)
  where
    by-test : (t : Bool) → length (when t then [] else decimal (d - 1) (n / 10)) + 1 ≤ d
    by-test true = omega arith
    by-test false = omega (arith, decimal-room (d - 1) (n / 10))

-- numbers behind others: a space and 20 digits each, at most
pub spaced-room : (ns : List ℕ) → length (spaced ns) ≤ 21 * length ns
unfolding spaced ascii
spaced-room [] = omega arith
spaced-room (n ∷ ns) =
    omega (arith, length-append (decimal 20 n) (spaced ns), decimal-room 20 n, spaced-room ns)

pub spaced-one : (n : ℕ) → spaced (n ∷ []) ≡ ascii " " ++ decimal 20 n
unfolding spaced
spaced-one n = append-nil (ascii " " ++ decimal 20 n)

pub spaced-append : (ns ks : List ℕ) → spaced (ns ++ ks) ≡ spaced ns ++ spaced ks
unfolding spaced
spaced-append [] ks = refl
spaced-append (n ∷ ns) ks = rw (spaced-append ns ks) (sym (append_assoc (ascii " " ++ decimal 20 n) (spaced ns) (spaced ks)))

-- a line is its first number, the others behind it, and the end
pub line-spaced : (n : ℕ) (ns : List ℕ) → line (n ∷ ns) ≡ decimal 20 n ++ (spaced ns ++ ascii "\n")
unfolding line spaced ascii
line-spaced n [] = refl
line-spaced n (m ∷ ns) =
    append_assoc (decimal 20 n) (ascii " ") (line (m ∷ ns))
    ∙ ap (λ t. decimal 20 n ++ (ascii " " ++ t)) (line-spaced m ns)
    ∙ ap (λ t. decimal 20 n ++ (ascii " " ++ t)) (sym (append_assoc (decimal 20 m) (spaced ns) (ascii "\n")))

pub items-count : (n : ℕ) (trace : Bytes) → length (items_in n trace) ≡ n
unfolding items_in
items-count zero trace = refl
items-count (suc n) trace = ap suc (items-count n (drop 4 trace))

-- one item more
pub items_more : (n : ℕ) (trace : Bytes) → items_in (suc n) trace ≡ items_in n trace ++ (field 4 trace (4 * n) ∷ [])
unfolding items_in
items_more zero trace = refl
items_more (suc n) trace =
    ap (λ is. field 4 trace 0 ∷ is) (items_more n (drop 4 trace))
    ∙ ap (λ k. items_in (suc n) trace ++ (k ∷ [])) (field-drop 4 trace 4 (4 * n) ∙ ap (field 4 trace) (omega arith))

-- the first n items, and one more, behind a text
module _ (text trace : Bytes) (n : ℕ) {so_far : Bytes} (so : so_far ≡ text ++ spaced (items_in n trace)) where
  pub item-next : {new : Bytes} → new ≡ so_far ++ (ascii " " ++ decimal 20 (field 4 trace (4 * n))) → new ≡ text ++ spaced (items_in (n + 1) trace)
  item-next put =
      let k = field 4 trace (4 * n) in
      let one : n + 1 ≡ suc n = omega arith in
      put
      ∙ rw (so, one, items_more n trace, spaced-append (items_in n trace) (k ∷ []), spaced-one k)
      (append_assoc text (spaced (items_in n trace)) (ascii " " ++ decimal 20 k))

  pub items-room : length so_far ≤ length text + 21 * n
  items-room =
      omega (arith, ap length so, length-append text (spaced (items_in n trace)), spaced-room (items_in n trace), items-count n trace)

pub no_item : (text trace : Bytes) → text ≡ text ++ spaced (items_in 0 trace)
unfolding spaced items_in
no_item text trace = sym (append-nil text)
