-- `operate` meets its contract: the kit's operation on what the two patterns read as is the definition's.
use Rattle.float.proofs.Ops.{results}
use borrow.Author.Rules.{rules}
use Rattle.float.proofs.operate.Goals as goal

pub returns-in-Add : goal.returns-in-Add
returns-in-Add c = search (results, rules)

pub returns-in-Sub : goal.returns-in-Sub
returns-in-Sub c = search (results, rules)

pub returns-in-Mul : goal.returns-in-Mul
returns-in-Mul c = search (results, rules)

pub returns-in-Div : goal.returns-in-Div
returns-in-Div c = search (results, rules)
