-- `check::leaf_right` meets its contract: a leaf covers itself.
use Rattle.table.proofs.Rights.{rights}
use Rattle.table.proofs.check.leaf_right.Goals as goal

pub returns : goal.returns
returns c = search rights depth 12
