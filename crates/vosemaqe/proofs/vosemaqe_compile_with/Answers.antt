-- `vosemaqe_compile_with` reports what `compile_with` answers.
use borrow.Author.Rules.{rules}
use Rattle.vosemaqe.proofs.Laws.{compile-at}
use Rattle.vosemaqe.proofs.vosemaqe_compile_with.Goals as goal

pub returns : goal.returns
returns c = search (compile-at, rules)
