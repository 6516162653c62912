-- Which integers 64 bits hold, and the exact sum, difference and product.
use Rattle.std.specs.Prelude.{◌^◌, Bool, ℤ, ◌+ℤ◌, ◌-ℤ◌, ◌*ℤ◌, nat_lt}
use Rattle.std.specs.Int.Signed.{mag}
use Rattle.int64.specs.declared.exact.Overflowing.{Overflowing}
use Rattle.int64.specs.declared.exact.Overflowing.TheVariants.{Add, Sub, Mul}

-- -2^63 ≤ z < 2^63: `mag` is n both for n and for -(n + 1)
unfoldable pub in_range : ℤ → Bool
in_range z = nat_lt (mag z) (2 ^ 63)

unfoldable pub arith : Overflowing → ℤ → ℤ → ℤ
arith Add a b = a +ℤ b
arith Sub a b = a -ℤ b
arith Mul a b = a *ℤ b
