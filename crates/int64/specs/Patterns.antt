-- Plumbing: the patterns that functions of `int64` hand to one another. The operators' meaning does not use them.
-- `to_z w64 p` is the integer that the pattern p has in two's complement, and `of_z w64 n` is the pattern of n.
use Rattle.std.specs.Prelude.{ℕ, ◌-◌, ◌%◌, ◌^◌, Bool, cond, ℤ}
use Rattle.std.specs.Int.{w64}
use Rattle.std.proofs.Common.{of_z}
use Rattle.int64.specs.Exact.{in_range}

-- the 64 bits of m, or of -m
unfoldable pub bits_of : Bool → ℕ → ℕ
bits_of s m = cond s ((2 ^ 64 - m) % 2 ^ 64) m

-- the pattern of z where 64 bits hold it, else 0
unfoldable pub fitted : ℤ → ℕ
fitted z = cond (in_range z) (of_z w64 z) 0
