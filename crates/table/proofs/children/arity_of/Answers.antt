-- `children::arity_of` meets its contract: a chain of tests.
use Rattle.faults.proofs.Faults.{tests}
use Rattle.table.specs.Table.{arity}
use Rattle.table.proofs.children.arity_of.Goals as goal

pub returns-then-k-le-REF : goal.returns-then-k-le-REF
unfolding arity
returns-then-k-le-REF c = search tests

pub returns-then-k-le-NOT : goal.returns-then-k-le-NOT
unfolding arity
returns-then-k-le-NOT c = search tests

pub returns-then-k-le-OR : goal.returns-then-k-le-OR
unfolding arity
returns-then-k-le-OR c = search tests

pub returns-else-k-le-OR : goal.returns-else-k-le-OR
unfolding arity
returns-else-k-le-OR c = search tests
