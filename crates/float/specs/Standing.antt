-- How an Int stands to a Float, by document 02, W4: the true integer is compared with the float's exact value. The infinities lie beyond every Int;
-- a NaN is unordered.
use Rattle.std.specs.Prelude.{ℕ, ◌*◌, ◌^◌, ℤ, nat_abs}
use Rattle.int64.specs.Sign.{negative}
use Rattle.int64.specs.Order.{Order}
use Rattle.float.specs.Bits.{Real, fin, read}
use Rattle.float.specs.Order.{order}

-- an integer in steps of 2^-1074
abbrev pub exactly : ℤ → Real
exactly n = fin (negative n) (nat_abs n * 2 ^ 1074)

unfoldable pub standing : ℤ → ℕ → Order
standing n q = order (exactly n) (read q)
