-- `float_of` meets its contract: an Int that is exact is the Float of that value.
use Rattle.float.specs.Float.{whole}
use Rattle.ops.specs.Arith.{converted}
use Rattle.ops.proofs.arith.float_of.Goals as goal

pub returns-in-Int : goal.returns-in-Int
unfolding converted whole
returns-in-Int c = rw c.in-Int.is c.from_int.ensures
