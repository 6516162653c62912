-- `patch::displacement` meets its contract: below 2^62 the difference fits 64 bits, and 32 bits where its magnitude is below 2^31.
use borrow.Author.Rules.{rules}
use Rattle.decode.proofs.patch.Aim.{past-62, diff-fits, near_by, far-by}
use Rattle.decode.proofs.patch.displacement.Goals as goal

pub returns-then-target-ge-FAR_TARGET : goal.returns-then-target-ge-FAR_TARGET
returns-then-target-ge-FAR_TARGET c = search past-62

pub overflow_sub-d : goal.overflow_sub-d
overflow_sub-d c = search (diff-fits, rules)

pub returns-then-magnitude-lt-HALF_32 : goal.returns-then-magnitude-lt-HALF_32
returns-then-magnitude-lt-HALF_32 c = near_by _ _ c.requires c.if-target-ge-FAR_TARGET.false c.magnitude.ensures c.if-magnitude-lt-HALF_32.true

pub returns : goal.returns
returns c = far-by _ _ c.requires c.if-target-ge-FAR_TARGET.false c.magnitude.ensures c.if-magnitude-lt-HALF_32.false
