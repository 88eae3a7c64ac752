-- `Header::checked` goes by `fits`, the definition by the test that `fits` answers. Assumes nothing.
use mathlib.Core.Path.{◌≡◌, refl}
use mathlib.Core.Bool.{Bool, true, false}
use Rattle.std.specs.Prelude.{Some, None}
use Rattle.std.specs.Bool.{then_some}
use Rattle.rules.specs.Lists.{when◌then◌else◌}
use Rattle.rules.specs.Types.{fits_of}
use Rattle.rules.specs.declared.headers.Header.{Header}
use Rattle.rules.proofs.headers.Header.checked.Goals as goal

chosen : (b : Bool) (h : Header) → then_some b h ≡ (when b then Some h else None)
unfolding when◌then◌else◌
chosen true h = refl
chosen false h = refl

pub returns : goal.returns
returns c = rw (c.then_some.ensures, c.fits.ensures) (chosen (fits_of c.args.self) c.args.self)
