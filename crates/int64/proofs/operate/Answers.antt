-- `operate` meets its contract: by the operator that an arm knows.
use lib.Bits.{bit_and, bit_or, bit_xor}
use Rattle.int64.specs.Int.{operate}
use Rattle.int64.specs.Exact.{arith}
use Rattle.int64.proofs.Answers.{bits-by}
use Rattle.int64.proofs.operate.Goals as goal

pub returns-in-Add : goal.returns-in-Add
unfolding operate arith
returns-in-Add c = rw c.in-Add.is c.arithmetic.ensures

pub returns-in-Sub : goal.returns-in-Sub
unfolding operate arith
returns-in-Sub c = rw c.in-Sub.is c.arithmetic-in-Sub.ensures

pub returns-in-Mul : goal.returns-in-Mul
unfolding operate arith
returns-in-Mul c = rw c.in-Mul.is c.arithmetic-in-Mul.ensures

pub returns-in-And : goal.returns-in-And
unfolding operate arith
returns-in-And c = rw c.in-And.is (bits-by bit_and _ _ c.ranges.p c.ranges.q)

pub returns-in-Or : goal.returns-in-Or
unfolding operate arith
returns-in-Or c = rw c.in-Or.is (bits-by bit_or _ _ c.ranges.p c.ranges.q)

pub returns-in-Xor : goal.returns-in-Xor
unfolding operate arith
returns-in-Xor c = rw c.in-Xor.is (bits-by bit_xor _ _ c.ranges.p c.ranges.q)

pub returns-in-Shl : goal.returns-in-Shl
unfolding operate arith
returns-in-Shl c = rw c.in-Shl.is c.shl.ensures

pub returns-in-Shr : goal.returns-in-Shr
unfolding operate arith
returns-in-Shr c = rw c.in-Shr.is c.shr.ensures

pub returns-in-Rem : goal.returns-in-Rem
unfolding operate arith
returns-in-Rem c = rw c.in-Rem.is c.rem.ensures
