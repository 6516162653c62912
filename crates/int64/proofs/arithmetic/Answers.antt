-- `arithmetic` meets its contract: the test and the pattern make the answer.
use Rattle.int64.proofs.Answers.{answers}
use Rattle.std.proofs.Common.{rules}
use Rattle.int64.proofs.arithmetic.Goals as goal

pub returns : goal.returns
returns c = search (answers, rules)
