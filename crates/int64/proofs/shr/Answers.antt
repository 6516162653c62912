-- `shr` meets its contract: the shift keeps the number within what it was.
use Rattle.int64.proofs.Answers.{answers}
use Rattle.std.proofs.Common.{rules}
use Rattle.int64.proofs.shr.Goals as goal

pub returns-then-q-ge64 : goal.returns-then-q-ge64
returns-then-q-ge64 c = search (answers, rules)

pub returns : goal.returns
returns c = search (answers, rules)
