-- `check::shape_fault` meets its contract: a chain of tests.
use Rattle.faults.proofs.Faults.{tests}
use Rattle.faults.specs.Faults.{fault, ◌or_else◌}
use Rattle.table.specs.Table.{shape_fault}
use Rattle.table.proofs.check.shape_fault.Goals as goal

pub returns-then-n-eq0 : goal.returns-then-n-eq0
unfolding shape_fault fault ◌or_else◌
returns-then-n-eq0 c = search tests

pub returns-then-n-ne0 : goal.returns-then-n-ne0
unfolding shape_fault fault ◌or_else◌
returns-then-n-ne0 c = search tests

pub returns-then-n-gt-MAX_NODES : goal.returns-then-n-gt-MAX_NODES
unfolding shape_fault fault ◌or_else◌
returns-then-n-gt-MAX_NODES c = search tests

pub returns : goal.returns
unfolding shape_fault fault ◌or_else◌
returns c = search tests
