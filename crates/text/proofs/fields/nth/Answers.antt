-- The field stands where its part says.
use Rattle.std.proofs.Common.{refl}
use Rattle.text.specs.Fields.{StandsIn}
use Rattle.text.proofs.fields.nth.Goals as goal

pub returns-clause-place : goal.returns-clause-place
unfolding StandsIn
returns-clause-place c =
    let p = c.nth_part-p.result in
    let within = c.nth_part-p.ensures.from_le_to in
    (p.from, p.to, within.0, within.1, refl)
