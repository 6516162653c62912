-- `checked` meets its contract.
use Rattle.int64.specs.Int.{checked}
use Rattle.int64.proofs.checked.Goals as goal

pub returns-then-fits : goal.returns-then-fits
unfolding checked
returns-then-fits c = rw c.if-fits.true

pub returns : goal.returns
unfolding checked
returns c = rw c.if-fits.false
