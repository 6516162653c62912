-- Sign and absolute value of an integer.
use Rattle.std.specs.Prelude.{ℕ, Bool, true, false, ℤ, pos, negsuc, neg_ℤ}

unfoldable pub negative : ℤ → Bool
negative (pos n) = false
negative (negsuc n) = true

-- m, or -m
unfoldable pub with_sign : Bool → ℕ → ℤ
with_sign false m = pos m
with_sign true m = neg_ℤ (pos m)
