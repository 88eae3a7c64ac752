-- The space, and the number behind it. Assumes nothing.
use mathlib.Core.Path.{◌∙◌}
use mathlib.Core.List.{[], ◌∷◌, append_assoc}
use Rattle.rules.specs.Bytes.{ascii}
use Rattle.rules.specs.Session.{decimal}
use Rattle.session.proofs.lines.Line.next.Goals as goal

pub returns : goal.returns
unfolding ascii
returns c = c.number.ensures ∙ rw c.push.ensures (append_assoc c.args.self.now (32 ∷ []) (decimal 20 c.args.n))
