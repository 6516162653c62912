-- IEEE 754 binary64 over whole numbers. A pattern is a number below 2^64: a sign, 11 bits of exponent, 52 of fraction.
-- A finite value is a whole number of 2^-1074, the format's smallest step.
use Rattle.std.specs.Prelude.{ℕ, zero, suc, ◌+◌, ◌*◌, ◌/◌, ◌%◌, ◌^◌, Bool, cond, leb, ltb, eqb}

-- NaN, an infinity, or ± n * 2^-1074
pub data Real : Type 0 where
  nan : Real
  inf : Bool → Real
  fin : Bool → ℕ → Real

abbrev pub sign : ℕ → Bool
sign p = leb (2 ^ 63) p

-- the pattern without its sign
abbrev pub rest : ℕ → ℕ
rest p = p % 2 ^ 63

abbrev pub infinity : ℕ
infinity = 0x7ff0_0000_0000_0000

-- the NaN of every arithmetic result
abbrev pub quiet : ℕ
quiet = 0x7ff8_0000_0000_0000

abbrev pub is_nan : ℕ → Bool
is_nan p = ltb infinity (rest p)

-- neither infinite nor a NaN
abbrev pub is_finite : ℕ → Bool
is_finite p = ltb (rest p) infinity

-- by the exponent's field and the fraction: a field of 0 has no leading digit
abbrev pub scaled : ℕ → ℕ → ℕ
scaled zero t = t
scaled (suc e) t = (2 ^ 52 + t) * 2 ^ e

-- how many times 2^-1074 the pattern q, of no sign, stands for; infinity counts as 2^1024
abbrev pub units : ℕ → ℕ
units q = scaled (q / 2 ^ 52) (q % 2 ^ 52)

unfoldable pub read : ℕ → Real
read p = cond (is_nan p) nan (cond (eqb (rest p) infinity) (inf (sign p)) (fin (sign p) (units (rest p))))
