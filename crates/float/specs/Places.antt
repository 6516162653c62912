-- Plumbing: the rule of specs/Standing for an Int beyond 2^53, without fractions or numbers of 128 bits. proofs/standing/Wide shows that it is `standing`.
use Rattle.std.specs.Prelude.{ℕ, ◌+◌, ◌-◌, ◌*◌, ◌/◌, ◌%◌, ◌^◌, Bool, cond, ltb, leb, ℤ, pos, Option, Some, None}
use Rattle.std.specs.Int.{w64}
use Rattle.std.proofs.Common.{to_z}
use Rattle.int64.specs.Patterns.{bits_of}
use Rattle.int64.specs.Order.{Order, order_z}
use Rattle.float.specs.Bits.{sign, rest}
use Rattle.float.specs.Standing.{standing}

-- The patterns of 2^52 and of 2^63, without a sign.
abbrev pub two52 : ℕ
two52 = 1075 * 2 ^ 52

abbrev pub two63 : ℕ
two63 = 1086 * 2 ^ 52

-- from 2^63 on a Float is past every Int, but for -2^63 itself; the infinities and the NaNs have greater patterns still
abbrev pub is_far : Bool → ℕ → Bool
is_far s r = cond s (ltb two63 r) (leb two63 r)

-- from 2^52 up to 2^63 a Float is an integer, by its exponent and its fraction
abbrev pub whole_part : ℕ → ℕ
whole_part r = (2 ^ 52 + r % 2 ^ 52) * 2 ^ (r / 2 ^ 52 - 1075)

-- where a Float stands among the Ints beyond 2^53: past them all, or where the Int with this pattern stands. One that is below 2^52 is nearer to 0 than
-- they are, and stands where 0 does
unfoldable pub place_of : ℕ → Option ℕ
place_of q = cond (is_far (sign q) (rest q)) None (cond (ltb (rest q) two52) (Some 0) (Some (bits_of (sign q) (whole_part (rest q)))))

-- a Float that is past them all stands to each as it stands to 0
abbrev pub stands_by : ℤ → ℕ → Option ℕ → Order
stands_by n q None = standing (pos 0) q
stands_by n q (Some z) = order_z n (to_z w64 z)
