-- `local` meets its contract: the pairs are values, so the pair at p is the value at p.
use borrow.Author.Rules.{rules}
use Rattle.eval.proofs.apply.Laws.{local-is}
use Rattle.eval.proofs.apply.local.Goals as goal

pub returns : goal.returns
returns c = search (local-is, rules)
