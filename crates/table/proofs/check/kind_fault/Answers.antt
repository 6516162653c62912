-- `check::kind_fault` meets its contract: a chain of tests.
use borrow.Author.Tests.{lt-ltb, le-ltb}
use Rattle.faults.specs.Faults.{fault, ◌or_else◌}
use Rattle.table.proofs.check.kind_fault.Goals as goal

pub returns-then-k-gt-TERNARY : goal.returns-then-k-gt-TERNARY
unfolding fault ◌or_else◌
returns-then-k-gt-TERNARY c = rw (lt-ltb 26 _ c.if-k-gt-TERNARY.true)

pub returns-then-p-k : goal.returns-then-p-k
unfolding fault ◌or_else◌
returns-then-p-k c = rw (le-ltb 26 _ c.if-k-gt-TERNARY.false, c.if-p-k.true)

pub returns-then-k-is_finite : goal.returns-then-k-is_finite
unfolding fault ◌or_else◌
returns-then-k-is_finite c = rw (le-ltb 26 _ c.if-k-gt-TERNARY.false, c.if-p-k.false, ← c.is_finite.ensures, c.if-k-is_finite.true)

pub returns : goal.returns
unfolding fault ◌or_else◌
returns c = rw (le-ltb 26 _ c.if-k-gt-TERNARY.false, c.if-p-k.false, ← c.is_finite.ensures, c.if-k-is_finite.false)
