-- `size` meets its contract: by the sign.
use Rattle.int64.proofs.sign.Laws.{size-up, size-down}
use Rattle.int64.proofs.sign.size.Goals as goal

pub returns-then-p-ge9223372036854775808 : goal.returns-then-p-ge9223372036854775808
returns-then-p-ge9223372036854775808 c = size-down c.args.p c.ranges.p.fits c.if-p-ge9223372036854775808.true

pub returns-else-p-ge9223372036854775808 : goal.returns-else-p-ge9223372036854775808
returns-else-p-ge9223372036854775808 c = size-up c.args.p c.if-p-ge9223372036854775808.false
