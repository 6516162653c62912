-- Numbers as text. A text is a list of bytes.
use Rattle.std.specs.Prelude.{ℕ, ◌+◌, ◌-◌, ◌*◌, ◌^◌, Bool, ◌&&◌, cond, List, [], ◌∷◌, Result, Ok, Err, ltb, leb, eqb, get_or, drop}
use Rattle.text.specs.declared.numeral.NumeralError.{NumeralError}
use Rattle.text.specs.declared.numeral.NumeralError.TheVariants.{NoNumber, TooLarge}

-- the value of a digit: 0 to 9, A to F or a to f; 16, which no base has, for any other byte
unfoldable pub digit_of : ℕ → ℕ
digit_of b =
    cond (ltb b 48) 16
    (cond (ltb b 58) (b - 48)
    (cond (ltb b 65) 16
    (cond (ltb b 71) (b - 55)
    (cond (ltb b 97) 16
    (cond (ltb b 103) (b - 87) 16)))))

-- n and one digit after it: refused where it is no digit of the base, or where 64 bits do not hold the number
unfoldable pub more_of : ℕ → ℕ → ℕ → Result ℕ NumeralError
more_of base n b =
    cond (leb base (digit_of b)) (Err NoNumber)
    (cond (leb (2 ^ 64) (n * base + digit_of b)) (Err TooLarge)
    (Ok (n * base + digit_of b)))

-- what was read and the digits of s after it, from the left; the first refusal counts
unfoldable pub read_on : ℕ → Result ℕ NumeralError → List ℕ → Result ℕ NumeralError
read_on base r [] = r
read_on base (Ok n) (b ∷ s) = read_on base (more_of base n b) s
read_on base (Err e) (b ∷ s) = Err e

-- one digit or more
unfoldable pub nat_of : ℕ → List ℕ → Result ℕ NumeralError
nat_of base [] = Err NoNumber
nat_of base (b ∷ s) = read_on base (Ok 0) (b ∷ s)

-- 0x, bytes 48 and 120, in front
unfoldable pub is_hex : List ℕ → Bool
is_hex s = eqb (get_or s 0 0) 48 && eqb (get_or s 1 0) 120

unfoldable pub unsigned_of : List ℕ → Result ℕ NumeralError
unsigned_of s = cond (is_hex s) (nat_of 16 (drop 2 s)) (nat_of 10 s)

-- the two's complement of n, and of -n, where 64 bits signed hold it
unfoldable pub positive_of : Result ℕ NumeralError → Result ℕ NumeralError
positive_of (Ok n) = cond (ltb n (2 ^ 63)) (Ok n) (Err TooLarge)
positive_of (Err e) = Err e

unfoldable pub negated_of : Result ℕ NumeralError → Result ℕ NumeralError
negated_of (Ok n) = cond (eqb n 0) (Ok 0) (cond (leb n (2 ^ 63)) (Ok (2 ^ 64 - n)) (Err TooLarge))
negated_of (Err e) = Err e

-- an Int: the digits of its two's complement after 0x, or decimal ones, after a minus sign (byte 45) or not
unfoldable pub int_of : List ℕ → Result ℕ NumeralError
int_of s =
    cond (is_hex s) (nat_of 16 (drop 2 s))
    (cond (eqb (get_or s 0 0) 45) (negated_of (nat_of 10 (drop 1 s)))
    (positive_of (nat_of 10 s)))
