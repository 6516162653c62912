-- How two numbers stand to each other, and which comparisons hold then.
use Rattle.std.specs.Prelude.{Bool, true, false, cond, not, ◌||◌, ℤ, int_lt}
use Rattle.int64.specs.declared.order.Cmp.{Cmp}
use Rattle.int64.specs.declared.order.Cmp.TheVariants.{Eq, Ne, Lt, Le, Gt, Ge}

-- of two floats, one may be a NaN: then they are unordered
pub data Order : Type 0 where
  less : Order
  equal : Order
  greater : Order
  unordered : Order

-- two integers
unfoldable pub order_z : ℤ → ℤ → Order
order_z a b = cond (int_lt a b) less (cond (int_lt b a) greater equal)

abbrev pub is_less : Order → Bool
is_less less = true
is_less equal = false
is_less greater = false
is_less unordered = false

abbrev pub is_equal : Order → Bool
is_equal less = false
is_equal equal = true
is_equal greater = false
is_equal unordered = false

abbrev pub is_greater : Order → Bool
is_greater less = false
is_greater equal = false
is_greater greater = true
is_greater unordered = false

-- of two that are unordered only Ne holds
unfoldable pub holds : Cmp → Order → Bool
holds Eq o = is_equal o
holds Ne o = not (is_equal o)
holds Lt o = is_less o
holds Le o = is_less o || is_equal o
holds Gt o = is_greater o
holds Ge o = is_greater o || is_equal o
