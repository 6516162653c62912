-- `table::child_2` meets its contract: a node of this kind has two children or three.
use Rattle.table.proofs.Trees.{child-ways}
use Rattle.table.proofs.child_2.Goals as goal

pub overflow_sub-i : goal.overflow_sub-i
overflow_sub-i c = search child-ways

pub overflow_sub-result : goal.overflow_sub-result
overflow_sub-result c = search child-ways

pub returns : goal.returns
returns c = search child-ways
