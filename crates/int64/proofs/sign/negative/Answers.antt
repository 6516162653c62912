-- `negative` meets its contract.
use Rattle.int64.proofs.sign.Laws.{negative-is}
use Rattle.int64.proofs.sign.negative.Goals as goal

pub returns : goal.returns
returns c = negative-is c.args.p
