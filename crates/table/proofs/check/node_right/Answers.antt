-- `check::node_right` meets its contract: by the kind, a leaf, or a node of which one child is left to look at.
use Rattle.table.proofs.Rights.{rights}
use Rattle.table.proofs.check.node_right.Goals as goal

pub over_right-requires : goal.over_right-requires
over_right-requires c = search rights
