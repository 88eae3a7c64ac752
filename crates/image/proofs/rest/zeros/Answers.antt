-- The test so far is that of the bytes so far. Assumes nothing.
use mathlib.Core.Path.{◌≡◌, refl, subst}
use borrow.Author.Rules.{rules}
use Rattle.std.proofs.lemmas.Fn.{fold_over, slice_gives, fronts}
use Rattle.rules.specs.Lists.{every}
use Rattle.image.proofs.Zeros.{is_zero, one-more}
use Rattle.image.proofs.rest.zeros.Goals as goal

pub returns : goal.returns
unfolding every
returns c = subst (λ l. c.fold.result ≡ every is_zero l) c.iter.ensures.rest
    (fold_over fronts (λ y. y.now) _ (λ ys zero. zero ≡ every is_zero ys) _ (λ ys a x b f' j k. let more = one-more ys x.now j in search rules) _ _ _ _ (slice_gives c.iter.result) refl c.fold.ensures.ran)
