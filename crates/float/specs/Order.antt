-- How two floats stand to each other, over whole numbers of 2^-1074.
use Rattle.std.specs.Bool.{beq}
use Rattle.std.specs.Prelude.{cond}
use Rattle.int64.specs.Sign.{with_sign}
use Rattle.int64.specs.Order.{Order, less, equal, greater, unordered, order_z}
use Rattle.float.specs.Bits.{Real, nan, inf, fin}

-- a NaN is unordered; -0 and +0 are both 0 steps, and so equal

unfoldable pub order : Real → Real → Order
order nan y = unordered
order (inf s) nan = unordered
order (inf s) (inf t) = cond (beq s t) equal (cond s less greater)
order (inf s) (fin t n) = cond s less greater
order (fin s m) nan = unordered
order (fin s m) (inf t) = cond t greater less
order (fin s m) (fin t n) = order_z (with_sign s m) (with_sign t n)
