-- The arithmetic of IEEE 754 binary64 over whole numbers of 2^-1074. A result is a pattern: the one nearest to the exact result, a tie to the even pattern.
-- That `rounded` is the nearest one, and the only one, is proved in `proofs/Nearest.antt`.
use Rattle.std.specs.Prelude.{ℕ, zero, suc, ◌+◌, ◌-◌, ◌*◌, ◌/◌, ◌%◌, ◌^◌, ◌≤◌, ◌<◌, min, ◌≡◌, Bool, true, false, not, ◌&&◌, cond, leb, ltb, eqb, ℤ, pos, negsuc, nat_abs, Option, Some, None}
use Rattle.std.specs.Bool.{beq}
use Rattle.float.specs.declared.Op.{Op}
use Rattle.float.specs.declared.Op.TheVariants.{Add, Sub, Mul, Div}
use Rattle.float.specs.Bits.{Real, nan, inf, fin, infinity, quiet, units}

-- ---- rounding

-- how often w is halved until it has 53 binary digits, counted up to m
unfoldable pub halvings : ℕ → ℕ → ℕ
halvings zero w = 0
halvings (suc m) w = cond (ltb w (2 ^ 53)) 0 (suc (halvings m (w / 2)))

-- a / b to the nearest whole number, a tie to the even one: w is the whole part, r what is left
unfoldable pub to_nearest : ℕ → ℕ → ℕ
to_nearest a b = let w = a / b in let r = a % b in cond (ltb (r * 2) b) w (cond (eqb (r * 2) b) (w + w % 2) (w + 1))

-- The pattern, of no sign, nearest to num / den times 2^-1074. Of the whole part 53 digits are kept and k dropped, and what is kept is rounded.
-- Each digit dropped is one more in the exponent's field; the leading digit adds one more. From 2^1024 on it is infinity, so no more than 2046 need be
-- counted.
unfoldable pub rounded : ℕ → ℕ → ℕ
rounded num den = let k = halvings 2046 (num / den) in min infinity (k * 2 ^ 52 + to_nearest num (den * 2 ^ k))

-- What it means to be the nearest: num / den lies between the midpoints of q and its two neighbours, and on a midpoint only where q is even.
-- Each fraction is compared by multiplying out. Infinity stands in the row of patterns as 2^1024, so what lies past the last midpoint is infinity.
-- `rounded num den` is such a q, and there is no other: `proofs/Nearest.antt`.
pub record Nearest (num den q : ℕ) : Type 0 where
  pub top : q ≤ infinity
  pub above_lower : 0 < q → (units (q - 1) + units q) * den ≤ num * 2
  pub on_lower : 0 < q → (units (q - 1) + units q) * den ≡ num * 2 → q % 2 ≡ 0
  pub below_upper : q < infinity → num * 2 ≤ (units q + units (q + 1)) * den
  pub on_upper : q < infinity → num * 2 ≡ (units q + units (q + 1)) * den → q % 2 ≡ 0

-- a pattern of no sign with the sign s
abbrev pub with_sign_bit : Bool → ℕ → ℕ
with_sign_bit s q = cond s (2 ^ 63) 0 + q

-- ---- arithmetic

abbrev pub unlike : Bool → Bool → Bool
unlike s t = not (beq s t)

-- ±m + ±n. A sum that is exactly zero is -0 where both are negative, and +0 otherwise.
unfoldable pub sum : Bool → ℕ → Bool → ℕ → ℕ
unfolding rounded
sum s m t n =
    cond (beq s t) (with_sign_bit s (rounded (m + n) 1))
    (cond (ltb m n) (with_sign_bit t (rounded (n - m) 1))
    (with_sign_bit (s && ltb n m) (rounded (m - n) 1)))

unfoldable pub add : Real → Real → ℕ
unfolding sum
add nan y = quiet
add (inf s) nan = quiet
add (inf s) (inf t) = cond (beq s t) (with_sign_bit s infinity) quiet
add (inf s) (fin t n) = with_sign_bit s infinity
add (fin s m) nan = quiet
add (fin s m) (inf t) = with_sign_bit t infinity
add (fin s m) (fin t n) = sum s m t n

abbrev pub negated : Real → Real
negated nan = nan
negated (inf s) = inf (not s)
negated (fin s m) = fin (not s) m

unfoldable pub sub : Real → Real → ℕ
unfolding add
sub x y = add x (negated y)

-- the product of m and n steps is m * n / 2^1074 steps
unfoldable pub mul : Real → Real → ℕ
unfolding rounded
mul nan y = quiet
mul (inf s) nan = quiet
mul (inf s) (inf t) = with_sign_bit (unlike s t) infinity
mul (inf s) (fin t n) = cond (eqb n 0) quiet (with_sign_bit (unlike s t) infinity)
mul (fin s m) nan = quiet
mul (fin s m) (inf t) = cond (eqb m 0) quiet (with_sign_bit (unlike s t) infinity)
mul (fin s m) (fin t n) = with_sign_bit (unlike s t) (rounded (m * n) (2 ^ 1074))

-- the quotient of m and n steps is m * 2^1074 / n steps
unfoldable pub div : Real → Real → ℕ
unfolding rounded
div nan y = quiet
div (inf s) nan = quiet
div (inf s) (inf t) = quiet
div (inf s) (fin t n) = with_sign_bit (unlike s t) infinity
div (fin s m) nan = quiet
div (fin s m) (inf t) = with_sign_bit (unlike s t) 0
div (fin s m) (fin t n) =
    cond (eqb n 0)
    (cond (eqb m 0) quiet (with_sign_bit (unlike s t) infinity))
    (with_sign_bit (unlike s t) (rounded (m * 2 ^ 1074) n))

unfoldable pub operate : Op → Real → Real → ℕ
unfolding add sub mul div
operate Add x y = add x y
operate Sub x y = sub x y
operate Mul x y = mul x y
operate Div x y = div x y

-- ---- an integer n as a float: n * 2^1074 steps. It is exact up to 2^53 either way: `proofs/Ops.antt`, `of_int-exact`

unfoldable pub of_int : ℤ → ℕ
unfolding rounded
of_int (pos n) = with_sign_bit false (rounded (n * 2 ^ 1074) 1)
of_int (negsuc n) = with_sign_bit true (rounded (suc n * 2 ^ 1074) 1)

-- the same where n is one that is exact
unfoldable pub whole : ℤ → Option ℕ
unfolding of_int
whole n = cond (leb (nat_abs n) (2 ^ 53)) (Some (of_int n)) None
