-- `is_far` meets its contract: one test for each sign.
use Rattle.float.proofs.standing.Laws.{standings}
use borrow.Author.Rules.{rules}
use Rattle.float.proofs.standing.is_far.Goals as goal

pub returns-then-s : goal.returns-then-s
returns-then-s c = search (standings, rules)

pub returns : goal.returns
returns c = search (standings, rules)
