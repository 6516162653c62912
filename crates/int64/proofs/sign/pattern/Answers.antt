-- `pattern` meets its contract: by the sign of n.
use Rattle.int64.proofs.sign.Casts.{casts, up-cast, below-cast}
use Rattle.int64.proofs.sign.pattern.Goals as goal

pub overflow_cast-result : goal.overflow_cast-result
overflow_cast-result c = up-cast c.args.n c.ranges.n c.if-n-ge0.true

pub overflow_sub-result : goal.overflow_sub-result
overflow_sub-result c = search casts

pub overflow_cast-result-else-n-ge0 : goal.overflow_cast-result-else-n-ge0
overflow_cast-result-else-n-ge0 c = below-cast c.args.n c.ranges.n c.if-n-ge0.false

pub overflow_sub-result-else-n-ge0 : goal.overflow_sub-result-else-n-ge0
overflow_sub-result-else-n-ge0 c = search casts

pub returns-then-n-ge0 : goal.returns-then-n-ge0
returns-then-n-ge0 c = search casts

pub returns-else-n-ge0 : goal.returns-else-n-ge0
returns-else-n-ge0 c = search casts
