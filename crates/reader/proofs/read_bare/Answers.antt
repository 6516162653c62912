-- Of a line that has fields the first one counts.
use Rattle.std.proofs.Common.{◌∙◌, ne_eqb}
use Rattle.reader.specs.Line.{fields_line}
use Rattle.reader.proofs.read_bare.Goals as goal

pub returns : goal.returns
unfolding fields_line
returns c = c.by_place.ensures ∙ rw (c.first_place.ensures, c.nth-w.ensures.value, ne_eqb _ 0 (λ z. c.if-count-eq0.false (c.count.ensures ∙ z)))
