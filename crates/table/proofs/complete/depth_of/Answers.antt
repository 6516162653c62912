-- `complete::depth_of` meets its contract: each return is a law of the span.
use Rattle.table.proofs.complete.Laws.{spans}
use Rattle.table.proofs.complete.depth_of.Goals as goal

pub overflow_add-result : goal.overflow_add-result
overflow_add-result c = search spans

pub returns-in-None : goal.returns-in-None
returns-in-None c = search spans

pub returns-in-Some : goal.returns-in-Some
returns-in-Some c = search spans
