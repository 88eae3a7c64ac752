-- The numbers that the tests of a call can answer, and that 13 comes of the image alone. Assumes nothing.
use mathlib.Core.Path.{◌≡◌, refl, sym, ◌∙◌}
use mathlib.Core.Bool.{Bool, true, false, false≢true}
use Prim.Native.Nat.{ℕ, zero, suc, ◌≤◌}
use native.Mathlib.Omega.{arith}
use lib.Dec.{leb}
use Rattle.rules.specs.Lists.{within, ◌else◌}
use Rattle.rules.specs.Chart.{Chart, events}
use Rattle.rules.specs.Accept.{◌unless◌next◌, chart_refusal}
use Rattle.rules.specs.Image.{accepted}
use Rattle.rules.specs.Doing.{most_units}
use Rattle.rules.specs.Bound.{bound_refusal}
use Rattle.rules.specs.Calls.{Board, part, part_refusal, step_refusal}

unless-most : (m k : ℕ) (b : Bool) (r : ℕ) → k ≤ m → r ≤ m → (k unless b next r) ≤ m
unfolding ◌unless◌next◌
unless-most m k true r h g = g
unless-most m k false r h g = h

else-most : (m a b : ℕ) → a ≤ m → b ≤ m → (a else b) ≤ m
unfolding ◌else◌
else-most m zero b h g = g
else-most m (suc a) b h g = h

chart-most : (c : Chart) → chart_refusal c ≤ 11
unfolding chart_refusal
chart-most c =
    at 1 _ _ (omega arith) (at 2 _ _ (omega arith) (at 3 _ _ (omega arith) (at 4 _ _ (omega arith) (at 5 _ _ (omega arith)
    (at 6 _ _ (omega arith) (at 7 _ _ (omega arith) (at 8 _ _ (omega arith) (at 9 _ _ (omega arith) (at 10 _ _ (omega arith)
    (at 11 _ 0 (omega arith) (omega arith)))))))))))
  where
    at : (k : ℕ) (b : Bool) (r : ℕ) → k ≤ 11 → r ≤ 11 → (k unless b next r) ≤ 11
    at = unless-most 11

pub tests-most : (c : Chart) (board : Board) (k e allowance : ℕ) → step_refusal c board k e allowance ≤ 15
unfolding step_refusal part_refusal
tests-most c board k e allowance =
    else-most 15 (chart_refusal c) _ (omega (arith, chart-most c))
    (else-most 15 _ _ (unless-most 15 12 _ 0 (omega arith) (omega arith))
    (unless-most 15 13 _ _ (omega arith)
    (unless-most 15 14 _ _ (omega arith) (unless-most 15 15 _ 0 (omega arith) (omega arith)))))

pub bound-tests-most : (c : Chart) → (chart_refusal c else bound_refusal c) ≤ 23
unfolding bound_refusal
bound-tests-most c =
    else-most 23 (chart_refusal c) _ (omega (arith, chart-most c))
    (unless-most 23 21 _ _ (omega arith)
    (unless-most 23 22 _ _ (omega arith) (unless-most 23 23 _ 0 (omega arith) (omega arith))))

-- 13 comes of the image alone
thirteen : (p a w l : Bool) → a ≡ true
    → ((12 unless p next 0) else (13 unless a next 14 unless w next 15 unless l next 0)) ≡ 13 → ⊥
unfolding ◌unless◌next◌ ◌else◌
thirteen false a w l t e = omega arith
thirteen true false w l t e = false≢true t
thirteen true true false l t e = omega arith
thirteen true true true false t e = omega arith
thirteen true true true true t e = omega arith

pub taken-not-13 : (c : Chart) (board : Board) (k e allowance : ℕ) → chart_refusal c ≡ 0
    → accepted (part board k) c ≡ true → step_refusal c board k e allowance ≡ 13 → ⊥
unfolding step_refusal part_refusal ◌else◌
taken-not-13 c board k e allowance z t q =
    thirteen _ _ (within 1 (events c) e) (leb allowance most_units) t (sym (first-zero (chart_refusal c) _ z) ∙ q)
  where
    first-zero : (a b : ℕ) → a ≡ 0 → (a else b) ≡ b
    first-zero zero b e = refl
    first-zero (suc a) b e = absurd (omega arith)
