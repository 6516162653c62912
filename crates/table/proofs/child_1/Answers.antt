-- `table::child_1` meets its contract: a node of this kind has a last child.
use Rattle.table.proofs.Trees.{child-ways}
use Rattle.table.proofs.child_1.Goals as goal

pub overflow_sub-result : goal.overflow_sub-result
overflow_sub-result c = search child-ways

pub returns : goal.returns
returns c = search child-ways
