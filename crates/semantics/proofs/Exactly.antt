-- The definitions go exactly where the relation (`Relation.antt`) leads. For a chart that is taken and an image that is accepted:
-- a step goes from n to n' exactly if the relation does; it leads to one place at most; a step is refused exactly if it leads
-- nowhere; and the whole call answers so. Assumes nothing.
use mathlib.Core.Path.{◌≡◌, refl, sym, ◌∙◌}
use mathlib.Core.Logic.{◌↔◌, ◌⊎◌, inl, inr}
use mathlib.Core.Bool.{true, false}
use Prim.Native.Nat.{ℕ, ◌<◌}
use Rattle.rules.specs.Bytes.{Bytes}
use Rattle.rules.specs.Chart.{State, Chart, states}
use Rattle.rules.specs.Accept.{chart_refusal}
use Rattle.rules.specs.Image.{is_active, not_started, accepted}
use Rattle.rules.specs.Doing.{Refusal, Now, Outcome, refused, went}
use Rattle.rules.specs.Fire.{levels}
use Rattle.rules.specs.Run.{run, send, step}
use Rattle.rules.specs.Calls.{Board, Answer, part, part_refusal, begin, number_only, step_refusal, step_answer, unless_refused, step_call}
use Rattle.rules.proofs.Laws.{else-zero, unless-zero}
use Rattle.rules.proofs.Taken.{right}
use Rattle.rules.proofs.Refusing.{Executing, step-refuses}
use Rattle.rules.proofs.Firing.{Going}
use Rattle.rules.proofs.Running.{going}
use Rattle.rules.proofs.Accepting.{started-good}
use Rattle.semantics.specs.Relation.{⇝runS, ⇝Ch, ◌⊢◌, Goes}
use Rattle.semantics.proofs.Inverting.{stuck, one_place}
use Rattle.semantics.proofs.Sound.{send-sound, run_sound, step-sound}
use Rattle.semantics.proofs.Complete.{run-complete, step-complete}

-- the relation leads nowhere
abbrev pub Nowhere : Chart → ℕ → Now → Type 0
Nowhere c e n = (n' : Now) → c ⊢ ⇝Ch e n n' → ⊥

-- A step of a chart that is taken, on an image that is accepted.
module _ (c : Chart) (taken : chart_refusal c ≡ 0) (e : ℕ) (n : Now) (fits : accepted n.image c ≡ true) where
  pub exactly : (n' : Now) → Goes (step c e) n n' ↔ (c ⊢ ⇝Ch e n n')
  exactly n' = (step-sound c (right c taken) e n n' fits, step-complete c (right c taken) e n n' fits)

  pub deterministic : (n₁ n₂ : Now) → c ⊢ ⇝Ch e n n₁ → c ⊢ ⇝Ch e n n₂ → n₁ ≡ n₂
  deterministic n₁ n₂ x y = one_place (step c e) ((exactly n₁).1 x) ((exactly n₂).1 y)

  refused-nowhere : (r : Refusal) → step c e n ≡ refused r → Nowhere c e n
  refused-nowhere r q n' x = stuck (sym q ∙ ((exactly n').1 x).is)

  refused-or-not : Nowhere c e n → (o : Outcome (Unit {0})) → step c e n ≡ o → (r : Refusal) × (step c e n ≡ refused r)
  refused-or-not none (refused r) q = (r, q)
  refused-or-not none (went a n') q = absurd (none n' ((exactly n').0 (record { is = q })))

  pub refused-leads-nowhere : ((r : Refusal) × (step c e n ≡ refused r)) ↔ Nowhere c e n
  refused-leads-nowhere = (λ (r, q). refused-nowhere r q, λ none. refused-or-not none (step c e n) refl)

-- A run of any active state p of a started lift, with k sends more to open; and 002's theorem deterministic_state, of these.
module _ (c : Chart) (taken : chart_refusal c ≡ 0) (k e : ℕ) (p : State) (state : p < states c) (n : Now)
    (fits : accepted n.image c ≡ true) (started : not_started n.image ≡ false) (active : is_active n.image p ≡ true) where
  there : Going c p n.image
  there = going c (right c taken) state n.image (active, started-good c n.image fits started)

  pub run-exactly : (n' : Now) → Goes (run c (send c k) e levels p) n n' ↔ (c ⊢ ⇝runS k e p n n')
  run-exactly n' = (
    λ w. run_sound c (right c taken) k (send-sound c (right c taken) k) e 9 0 refl p tt n n' there w,
    run-complete c (right c taken) k e p n n' there,
  )

  pub deterministic-state : (n₁ n₂ : Now) → c ⊢ ⇝runS k e p n n₁ → c ⊢ ⇝runS k e p n n₂ → n₁ ≡ n₂
  deterministic-state n₁ n₂ x y = one_place (run c (send c k) e levels p) ((run-exactly n₁).1 x) ((run-exactly n₂).1 y)

-- The whole call, where none of 1 to 15 applies.
module _ (c : Chart) (board : Board) (trace : Bytes) (k e allowance : ℕ) (z : step_refusal c board k e allowance ≡ 0) where
  abbrev pub before : Now
  before = begin (part board k) trace allowance

  abbrev pub call : Answer
  call = step_call c board trace k e allowance

  -- it answers with what the relation leads to
  abbrev pub Led : Type 0
  Led = (n' : Now) × (c ⊢ ⇝Ch e before n') × (call ≡ step_answer board trace k allowance (went tt n'))

  -- that leads nowhere, and the call is refused with one of 16 to 20
  abbrev pub Stopped : Type 0
  Stopped = Nowhere c e before × (r : Refusal) × Executing r × (call ≡ number_only r board trace)

  taken : chart_refusal c ≡ 0
  unfolding step_refusal
  taken = (else-zero (chart_refusal c) _ z).0

  fits : accepted before.image c ≡ true
  unfolding step_refusal begin
  fits = (unless-zero 12 _ _ (else-zero (part_refusal board k) _ (else-zero (chart_refusal c) _ z).1).1).0

  ends : (o : Outcome (Unit {0})) → step c e before ≡ o → Led ⊎ Stopped
  unfolding step_call unless_refused step_answer
  ends (refused r) q = inr (refused-nowhere c taken e before fits r q, r, step-refuses c e before r q, rw (z, q))
  ends (went a n') q = inl (n', (exactly c taken e before fits n').0 (record { is = q }), rw (z, q))

  pub call-exactly : Led ⊎ Stopped
  call-exactly = ends (step c e before) refl
