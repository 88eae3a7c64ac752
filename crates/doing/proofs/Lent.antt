-- What is lent to a step stays lent to it. Assumes nothing.
use mathlib.Core.Path.{◌≡◌, refl, ◌∙◌}
use Rattle.doing.specs.Held.{Same}
use Rattle.doing.specs.declared.Now.{Now}

pub same-itself : {n : Now} → Same n n
same-itself = record { image = refl; trace = refl; image_length = refl; trace_length = refl }

pub same-then : {a b c : Now} → Same a b → Same b c → Same a c
same-then p q = record {
  image = q.image ∙ p.image;
  trace = q.trace ∙ p.trace;
  image_length = q.image_length ∙ p.image_length;
  trace_length = q.trace_length ∙ p.trace_length;
}
