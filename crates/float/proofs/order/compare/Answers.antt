-- `compare` meets its contract: the kit's comparisons read how the two patterns stand.
use Rattle.float.proofs.order.Orders.{orders}
use borrow.Author.Rules.{rules}
use Rattle.float.proofs.order.compare.Goals as goal

pub returns-in-Eq : goal.returns-in-Eq
returns-in-Eq c = search (orders, rules)

pub returns-in-Ne : goal.returns-in-Ne
returns-in-Ne c = search (orders, rules)

pub returns-in-Lt : goal.returns-in-Lt
returns-in-Lt c = search (orders, rules)

pub returns-in-Le : goal.returns-in-Le
returns-in-Le c = search (orders, rules)

pub returns-in-Gt : goal.returns-in-Gt
returns-in-Gt c = search (orders, rules)

pub returns-in-Ge : goal.returns-in-Ge
returns-in-Ge c = search (orders, rules)
