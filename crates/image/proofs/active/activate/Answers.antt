-- A bit that is off has room, and the byte with it is the rules'; one that is on is left. Assumes nothing.
use Rattle.image.proofs.Bits.{on_fits, on-stored, on-kept}
use Rattle.image.proofs.active.activate.Goals as goal

pub overflow_add-byte : goal.overflow_add-byte
overflow_add-byte c = let a = c.args in
    on_fits a.image.now a.s.0 c.place.ensures c.at-byte.ensures c.if-byte-k-ne1.true c.at-byte.type_inv

pub returns-then-byte-k-ne1 : goal.returns-then-byte-k-ne1
returns-then-byte-k-ne1 c = let a = c.args in
    on-stored a.image.now a.s.0 c.place.ensures c.at-byte.ensures c.if-byte-k-ne1.true c.at-byte.type_inv c.place-then-byte-k-ne1.ensures
    c.put.ensures

pub returns-else-byte-k-ne1 : goal.returns-else-byte-k-ne1
returns-else-byte-k-ne1 c = let a = c.args in on-kept a.image.now a.s.0 c.place.ensures c.at-byte.ensures c.if-byte-k-ne1.false
