-- The text is the definition's. Assumes nothing.
use Rattle.rules.specs.Bytes.{ascii}
use Rattle.rules.specs.Session.{bad_session}
use Rattle.session.proofs.say_bad.Goals as goal

pub returns : goal.returns
unfolding bad_session ascii
returns g c = c.put.ensures
