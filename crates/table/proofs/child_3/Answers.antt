-- `table::child_3` meets its contract: a node of this kind has three children.
use borrow.Author.Rules.{rules}
use Rattle.table.proofs.Trees.{child-ways}
use Rattle.table.proofs.child_3.Goals as goal

pub child_2-requires : goal.child_2-requires
child_2-requires c = search (child-ways, rules)

pub first_at-requires : goal.first_at-requires
first_at-requires c = search (child-ways, rules)

pub overflow_sub-result : goal.overflow_sub-result
overflow_sub-result c = search child-ways

pub returns : goal.returns
returns c = search child-ways
