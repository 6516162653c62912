-- `vosemaqe_compile` reports what `compile` answers.
use Rattle.vosemaqe.proofs.Laws.{compile-at}
use Rattle.vosemaqe.proofs.vosemaqe_compile.Goals as goal

pub returns : goal.returns
returns c = compile-at _ _ _ _ _ _ _ c.dest_of.ensures c.compile-c.ensures c.from-r.ensures
