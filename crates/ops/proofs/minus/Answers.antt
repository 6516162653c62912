-- `minus` meets its contract: Mul by Int -1.
use Rattle.ops.specs.Code.{operate_of}
use Rattle.ops.proofs.minus.Goals as goal

pub returns : goal.returns
unfolding operate_of
returns c = c.operate.ensures
