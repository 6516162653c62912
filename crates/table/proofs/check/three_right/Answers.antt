-- `check::three_right` meets its contract: past two children the first is left.
use Rattle.table.proofs.Rights.{three-over}
use Rattle.table.proofs.check.three_right.Goals as goal

pub over_right-requires : goal.over_right-requires
over_right-requires c = search three-over
