-- `dest_of` is the destination that the number stands for.
use Rattle.vosemaqe.proofs.results.Laws.{dest-is}
use Rattle.vosemaqe.proofs.results.dest_of.Goals as goal

pub returns : goal.returns
returns c = dest-is _ _ c.checked_sub.ensures
