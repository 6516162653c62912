-- `result` meets its contract: the sum or difference that wraps is the exact one where that fits.
use Rattle.int64.proofs.exact.Laws.{places}
use Rattle.int64.proofs.exact.result.Goals as goal

pub returns-in-Add : goal.returns-in-Add
returns-in-Add c = search places

pub returns-in-Sub : goal.returns-in-Sub
returns-in-Sub c = search places

pub returns-in-Mul : goal.returns-in-Mul
returns-in-Mul c = search places

pub returns-else-fits : goal.returns-else-fits
returns-else-fits c = search places
