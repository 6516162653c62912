-- `rem` meets its contract: of the absolute values, with the sign of the dividend.
use Rattle.int64.proofs.Answers.{answers}
use Rattle.std.proofs.Common.{rules}
use Rattle.int64.proofs.rem.Goals as goal

pub returns-then-y-eq0 : goal.returns-then-y-eq0
returns-then-y-eq0 c = search (answers, rules)

pub returns : goal.returns
returns c = search (answers, rules)
