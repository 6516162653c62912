-- A float as text. A text is a list of bytes; a finite float is a whole number of steps of 2^-1074 (float's specs/Bits).
use Rattle.std.specs.Prelude.{ℕ, suc, ◌+◌, ◌-◌, ◌*◌, ◌^◌, Bool, true, false, ◌&&◌, cond, leb, ltb, eqb}
use Rattle.std.specs.Prelude.{List, [], ◌∷◌, Option, Some, None, Result, Ok, Err, length, get_or, take, drop}
use Rattle.float.specs.Bits.{units, infinity, quiet}
use Rattle.float.specs.Float.{rounded, with_sign_bit}
use Rattle.text.specs.Bytes.{index_of}
use Rattle.text.specs.Fields.{bytes, place_of}
use Rattle.text.specs.Numeral.{nat_of, is_hex}
use Rattle.text.specs.declared.decimal.DecimalError.{DecimalError}
use Rattle.text.specs.declared.decimal.DecimalError.TheVariants.{NoNumber, TooLong, Between}
use Rattle.text.specs.Refusals.{of_numeral}
use Rattle.text.specs.declared.numeral.NumeralError.{NumeralError}

-- ---- digits, of which there may be any number

unfoldable pub is_digit : ℕ → Bool
is_digit b = leb 48 b && ltb b 58

unfoldable pub all_digits : List ℕ → Bool
all_digits [] = true
all_digits (b ∷ s) = is_digit b && all_digits s

-- the number that digits make, the first the greatest
unfoldable pub value_of : List ℕ → ℕ
value_of [] = 0
value_of (b ∷ s) = (b - 48) * 10 ^ length s + value_of s

-- ---- m / 10^k, or its negative, as a float

-- num / den steps, and q, the pattern nearest to it: where that float is equal to it, the float;
-- else it lies between two floats, of which the one nearer to zero is named.
unfoldable pub settled : Bool → ℕ → ℕ → ℕ → Result ℕ DecimalError
settled neg num den q =
    cond (eqb (units q * den) num) (Ok (with_sign_bit neg q)) (Err (Between (with_sign_bit neg (cond (ltb num (units q * den)) (q - 1) q))))

unfoldable pub decimal_of : Bool → ℕ → ℕ → Result ℕ DecimalError
unfolding settled
decimal_of neg m k = settled neg (m * 2 ^ 1074) (10 ^ k) (rounded (m * 2 ^ 1074) (10 ^ k))

-- ---- a text

-- a number of 64 bits, and the digits f after the point, of which 1100 are read: every float has fewer
unfoldable pub parts_of : Bool → Result ℕ NumeralError → List ℕ → Result ℕ DecimalError
unfolding decimal_of
parts_of neg (Ok a) f =
    cond (all_digits f) (cond (leb (length f) 1100) (decimal_of neg (a * 10 ^ length f + value_of f) (length f)) (Err TooLong)) (Err NoNumber)
parts_of neg (Err e) f = Err (of_numeral e)

-- after a point (byte 46) there is a digit
unfoldable pub point_of : Bool → Result ℕ NumeralError → List ℕ → Result ℕ DecimalError
unfolding parts_of
point_of neg r [] = Err NoNumber
point_of neg r (b ∷ f) = parts_of neg r (b ∷ f)

unfoldable pub plain_of : Bool → List ℕ → Result ℕ DecimalError
unfolding point_of
plain_of neg s =
    let dot = index_of 46 s in
    cond (ltb dot (length s)) (point_of neg (nat_of 10 (take dot s)) (drop (suc dot) s)) (parts_of neg (nat_of 10 s) [])

-- after a minus sign (byte 45) or not
unfoldable pub signed_of : List ℕ → Result ℕ DecimalError
unfolding plain_of
signed_of s = cond (eqb (get_or s 0 0) 45) (plain_of true (drop 1 s)) (plain_of false s)

unfoldable pub pattern_of : Result ℕ NumeralError → Result ℕ DecimalError
pattern_of (Ok p) = Ok p
pattern_of (Err e) = Err (of_numeral e)

unfoldable pub named_of : Option ℕ → List ℕ → Result ℕ DecimalError
unfolding signed_of
named_of (Some n) s = Ok (cond (eqb n 0) quiet (cond (eqb n 1) infinity (2 ^ 63 + infinity)))
named_of None s = signed_of s

-- 0x and the digits of its pattern; nan, inf or -inf; or a decimal
unfoldable pub float_of : List ℕ → Result ℕ DecimalError
unfolding pattern_of named_of
float_of s = cond (is_hex s) (pattern_of (nat_of 16 (drop 2 s))) (named_of (place_of s (bytes "nan" ∷ bytes "inf" ∷ bytes "-inf" ∷ [])) s)
