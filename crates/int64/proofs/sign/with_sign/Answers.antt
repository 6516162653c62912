-- `with_sign` meets its contract.
use Rattle.std.proofs.Common.{arith}
use Rattle.int64.specs.Patterns.{bits_of}
use Rattle.int64.proofs.sign.with_sign.Goals as goal

pub returns-then-neg : goal.returns-then-neg
unfolding bits_of
returns-then-neg c = rw c.if-neg.true (omega arith)

pub returns-else-neg : goal.returns-else-neg
unfolding bits_of
returns-else-neg c = rw c.if-neg.false
