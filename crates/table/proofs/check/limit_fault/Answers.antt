-- `check::limit_fault` meets its contract: a chain of tests.
use borrow.Author.Tests.{lt-ltb, le-ltb}
use Rattle.faults.specs.Limits.{max_depth}
use Rattle.faults.specs.Faults.{fault, ◌or_else◌}
use Rattle.table.proofs.check.limit_fault.Goals as goal

pub returns-then-depth-gt-MAX_DEPTH : goal.returns-then-depth-gt-MAX_DEPTH
unfolding fault ◌or_else◌
returns-then-depth-gt-MAX_DEPTH c = rw (lt-ltb max_depth _ c.if-depth-gt-MAX_DEPTH.true)

pub returns-then-k-base : goal.returns-then-k-base
unfolding fault ◌or_else◌
returns-then-k-base c = rw (le-ltb max_depth _ c.if-depth-gt-MAX_DEPTH.false, c.if-k-base.true)

pub returns : goal.returns
unfolding fault ◌or_else◌
returns c = rw (le-ltb max_depth _ c.if-depth-gt-MAX_DEPTH.false, c.if-k-base.false)
