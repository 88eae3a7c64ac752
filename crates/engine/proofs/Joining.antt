-- One doing after another: two that follow an outcome are one that does; what follows alike comes to the same; and nothing
-- done after it leaves it. Assumes nothing.
use mathlib.Core.Path.{◌≡◌, refl}
use Rattle.rules.specs.Doing.{Now, Outcome, refused, went, Doing, give, done, after}

module _ {A B C : Type 0} where
  pub after-after : (o : Outcome A) (f : A → Doing B) (g : B → Doing C) → after (after o f) g ≡ after o (λ a n. after (f a n) g)
  after-after (refused r) f g = refl
  after-after (went a n) f g = refl

module _ {A B : Type 0} where
  pub after_same : (o : Outcome A) {f g : A → Doing B} → ((a : A) (n : Now) → f a n ≡ g a n) → after o f ≡ after o g
  after_same (refused r) e = refl
  after_same (went a n) e = e a n

pub after-done : (o : Outcome (Unit {0})) → after o (λ _. done) ≡ o
unfolding done give
after-done (refused r) = refl
after-done (went tt n) = refl
