-- `compare` meets its contract: raised patterns stand in the order of their numbers.
use Rattle.int64.proofs.order.Laws.{comparisons}
use Rattle.std.proofs.Common.{rules}
use Rattle.int64.proofs.order.compare.Goals as goal

pub returns-in-Eq : goal.returns-in-Eq
returns-in-Eq c = search (comparisons, rules)

pub returns-in-Ne : goal.returns-in-Ne
returns-in-Ne c = search (comparisons, rules)

pub returns-in-Lt : goal.returns-in-Lt
returns-in-Lt c = search (comparisons, rules)

pub returns-in-Le : goal.returns-in-Le
returns-in-Le c = search (comparisons, rules)

pub returns-in-Gt : goal.returns-in-Gt
returns-in-Gt c = search (comparisons, rules)

pub returns-in-Ge : goal.returns-in-Ge
returns-in-Ge c = search (comparisons, rules)
