-- The maker makes one where its test passes. Assumes nothing.
use Rattle.std.proofs.Common.{◌≡◌, refl, ap, ◌∙◌, Bool, true, false, Some, None}
use Rattle.std.specs.Option.{is_some}
use Rattle.rules.specs.Lists.{when◌then◌else◌}
use Rattle.rules.specs.Types.{fits_of}
use Rattle.rules.specs.declared.headers.Header.{Header}
use Rattle.checker.proofs.counts_right.Goals as goal

made : (b : Bool) (h : Header) → is_some (when b then Some h else None) ≡ b
unfolding when◌then◌else◌
made true h = refl
made false h = refl

pub returns : goal.returns
returns c = c.is_some.ensures ∙ ap is_some c.checked.ensures ∙ made _ c.header.result ∙ ap fits_of c.header.ensures
