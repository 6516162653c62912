-- `signed` meets its contract: a pattern from 2^63 on is -1 less what it lacks of 2^64 - 1.
use Rattle.int64.proofs.sign.Casts.{casts}
use Rattle.int64.proofs.sign.signed.Goals as goal

pub overflow_sub-result-else-p-lt9223372036854775808 : goal.overflow_sub-result-else-p-lt9223372036854775808
overflow_sub-result-else-p-lt9223372036854775808 c = search casts

pub returns-else-p-lt9223372036854775808 : goal.returns-else-p-lt9223372036854775808
returns-else-p-lt9223372036854775808 c = search casts
