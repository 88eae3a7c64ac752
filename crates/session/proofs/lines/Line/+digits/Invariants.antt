-- The digits asked go down. Assumes nothing.
use Rattle.session.proofs.lines.Line.+digits.Given as goal

abbrev pub decreases-digits : goal.decreases-digits
decreases-digits l = l.most
