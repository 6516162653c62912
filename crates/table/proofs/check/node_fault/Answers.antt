-- `check::node_fault` meets its contract: a node that is right has no fault.
use borrow.Author.Rules.{rules}
use Rattle.table.proofs.Rights.{rights}
use Rattle.table.proofs.check.node_fault.Goals as goal

pub returns-then-node_right : goal.returns-then-node_right
returns-then-node_right c = search rights

pub full_fault-requires : goal.full_fault-requires
full_fault-requires c = search (rights, rules)
