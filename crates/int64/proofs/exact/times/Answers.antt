-- `times` meets its contract: the product is taken only where it fits.
use Rattle.int64.proofs.exact.Laws.{places}
use Rattle.int64.proofs.exact.times.Goals as goal

pub overflow_mul-x : goal.overflow_mul-x
overflow_mul-x c = search places

pub returns-then-times_fits : goal.returns-then-times_fits
returns-then-times_fits c = search places

pub returns-else-times_fits : goal.returns-else-times_fits
returns-else-times_fits c = search places
