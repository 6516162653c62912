-- `shl` meets its contract: a product by 2^q.
use Rattle.int64.proofs.Answers.{answers}
use Rattle.std.proofs.Common.{rules}
use Rattle.int64.proofs.shl.Goals as goal

pub returns-then-q-ge64 : goal.returns-then-q-ge64
returns-then-q-ge64 c = search (answers, rules)

pub returns : goal.returns
returns c = search (answers, rules)
