-- The bound call: the chart's refusal first, then the bound's own answer, packed. Assumes nothing.
use mathlib.Core.Path.{◌≡◌, refl, sym, ap, ◌∙◌}
use mathlib.Core.List.{[]}
use Prim.Native.Nat.{ℕ, zero, suc, ◌+◌, ◌*◌}
use Rattle.std.specs.Prelude.{Result, Ok, Err}
use native.Mathlib.Omega.{arith}
use Rattle.rules.specs.Lists.{◌else◌}
use Rattle.rules.specs.Chart.{Chart}
use Rattle.rules.specs.Accept.{chart_refusal}
use Rattle.rules.specs.Doing.{because}
use Rattle.rules.specs.Bound.{bound, bound_refusal}
use Rattle.rules.specs.Calls.{number_only, unless_refused, bound_call, Observed, packed, observed}
use Rattle.rules.specs.declared.refusals.Refusal.{Refusal}
use Rattle.bound.specs.Sums.{BoundAnswer, bounded_of, bound_told, bound_answer}
use Rattle.afraulenc.specs.Parts.{told_of}

abbrev told : ℕ → Observed
told n = record { answer = n; board = []; trace = [] }

abbrev packed_bound : BoundAnswer → ℕ
packed_bound a = a.refusal.number + 256 * a.bound

numbered : (r : ℕ) → observed (number_only (because r) [] []) ≡ told r
unfolding observed packed number_only because
numbered r = let q : r + 256 * (0 + 0) + 131072 * 0 ≡ r = omega arith in rw q refl

-- the answer of a chart that has a bound, or the number alone
bounded : (c : Chart) (r : ℕ)
    → observed (unless_refused r [] [] (record { refusal = because 0; units = 0; items = 0; bound = bound c; board = []; trace = [] }))
    ≡ told (packed_bound (bound_told r (bound c)))
unfolding unless_refused bound_told observed packed because
bounded c zero = let q : 0 + 256 * (0 + bound c) + 131072 * 0 ≡ 0 + 256 * bound c = omega arith in rw q refl
bounded c (suc r) = numbered (suc r) ∙ ap told (let q : suc r ≡ suc r + 256 * 0 = omega arith in q)

module _ (c : Chart) where
  refused-first : (r : ℕ) → r ≡ chart_refusal c → (r ≡ 0 → ⊥) → told r ≡ observed (bound_call c)
  unfolding bound_call ◌else◌ unless_refused
  refused-first zero e wrong = absurd (wrong refl)
  refused-first (suc r) e wrong = rw (← e) (sym (numbered (suc r)))

  pub bound-unchecked : {r : ℕ} → r ≡ chart_refusal c → (r ≡ 0 → ⊥) → told r ≡ observed (bound_call c)
  bound-unchecked e wrong = refused-first _ e wrong

-- the bound's answer, packed
as-packed : (b : Result ℕ Refusal) → told_of (λ n. 256 * n) b ≡ packed_bound (bounded_of b)
unfolding because
as-packed (Ok n) = omega arith
as-packed (Err r) = omega arith

pub bound-told : (c : Chart) → 0 ≡ chart_refusal c → (b : Result ℕ Refusal) → bounded_of b ≡ bound_answer c
    → told (told_of (λ n. 256 * n) b) ≡ observed (bound_call c)
unfolding bound_call bound_answer ◌else◌
bound-told c taken b says =
    rw (← taken)
    (ap told (as-packed b) ∙ ap (λ (a : BoundAnswer). told (packed_bound a)) says ∙ sym (bounded c (bound_refusal c)))
