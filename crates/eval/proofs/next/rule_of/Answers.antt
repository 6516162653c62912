-- `rule_of` meets its contract: a chain of tests.
use Rattle.faults.proofs.Faults.{tests}
use Rattle.eval.proofs.next.rule_of.Goals as goal

pub returns-then-k-le-NOT : goal.returns-then-k-le-NOT
returns-then-k-le-NOT c = search tests

pub returns-then-k-le-GE : goal.returns-then-k-le-GE
returns-then-k-le-GE c = search tests

pub returns-then-k-eq-AND : goal.returns-then-k-eq-AND
returns-then-k-eq-AND c = search tests

pub returns-then-k-eq-OR : goal.returns-then-k-eq-OR
returns-then-k-eq-OR c = search tests

pub returns : goal.returns
returns c = search tests
