-- `fits` meets its contract: each test is that the exact result lies in the range.
use Rattle.int64.proofs.exact.Laws.{places}
use Rattle.int64.proofs.exact.fits.Goals as goal

pub returns-then-a-lt9223372036854775808 : goal.returns-then-a-lt9223372036854775808
returns-then-a-lt9223372036854775808 c = search places

pub returns-else-a-lt9223372036854775808 : goal.returns-else-a-lt9223372036854775808
returns-else-a-lt9223372036854775808 c = search places

pub returns-then-a-lt9223372036854775808-2 : goal.returns-then-a-lt9223372036854775808-2
returns-then-a-lt9223372036854775808-2 c = search places

pub returns-else-a-lt9223372036854775808-2 : goal.returns-else-a-lt9223372036854775808-2
returns-else-a-lt9223372036854775808-2 c = search places

pub returns-in-Mul : goal.returns-in-Mul
returns-in-Mul c = search places
