-- A bit that is on can be taken off, and the byte without it is the rules'; one that is off is left. Assumes nothing.
use Rattle.image.proofs.Bits.{off-stored, off-kept}
use Rattle.image.proofs.active.deactivate.Goals as goal

pub returns-then-byte-k-eq1 : goal.returns-then-byte-k-eq1
returns-then-byte-k-eq1 c = let a = c.args in
    off-stored a.image.now a.s.0 c.place.ensures c.at-byte.ensures c.if-byte-k-eq1.true c.at-byte.type_inv c.place-then-byte-k-eq1.ensures
    c.put.ensures

pub returns-else-byte-k-eq1 : goal.returns-else-byte-k-eq1
returns-else-byte-k-eq1 c = let a = c.args in off-kept a.image.now a.s.0 c.place.ensures c.at-byte.ensures c.if-byte-k-eq1.false
