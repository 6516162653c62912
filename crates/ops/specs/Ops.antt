-- The operators on values by their names in document 01, and by their node kinds. The rules that they follow stand in Arith, Compare and Not.
use Rattle.std.specs.Prelude.{ℕ, cond, List, [], ◌∷◌, eqb, negsuc}
use Rattle.faults.specs.Numbers.{wrong_kind}
use Rattle.int64.specs.declared.Op.TheVariants as IO
use Rattle.int64.specs.declared.order.Cmp.TheVariants.{Eq, Ne, Lt, Le}
use Rattle.float.specs.declared.Op.TheVariants as FO
use Rattle.value.specs.Value.{Datum, int}
use Rattle.value.specs.Answer.{Answer, fault}
use Rattle.ops.specs.Arith.{arith_of, as_floats, whole_of}
use Rattle.ops.specs.Compare.{compare_of}

-- Minus is Mul by Int -1
abbrev pub minus_of : Datum → Answer
minus_of x = arith_of IO.Mul FO.Mul x (int (negsuc 0))

abbrev pub bit_and_of : Datum → Datum → Answer
bit_and_of x y = whole_of IO.And x y

abbrev pub bit_or_of : Datum → Datum → Answer
bit_or_of x y = whole_of IO.Or x y

abbrev pub bit_xor_of : Datum → Datum → Answer
bit_xor_of x y = whole_of IO.Xor x y

abbrev pub lshift_of : Datum → Datum → Answer
lshift_of x y = whole_of IO.Shl x y

abbrev pub rshift_of : Datum → Datum → Answer
rshift_of x y = whole_of IO.Shr x y

abbrev pub add_of : Datum → Datum → Answer
add_of x y = arith_of IO.Add FO.Add x y

abbrev pub sub_of : Datum → Datum → Answer
sub_of x y = arith_of IO.Sub FO.Sub x y

abbrev pub mul_of : Datum → Datum → Answer
mul_of x y = arith_of IO.Mul FO.Mul x y

-- Div converts both to Float
abbrev pub div_of : Datum → Datum → Answer
div_of x y = as_floats FO.Div x y

abbrev pub mod_of : Datum → Datum → Answer
mod_of x y = whole_of IO.Rem x y

abbrev pub eq_of : Datum → Datum → Answer
eq_of x y = compare_of Eq x y

abbrev pub ne_of : Datum → Datum → Answer
ne_of x y = compare_of Ne x y

abbrev pub lt_of : Datum → Datum → Answer
lt_of x y = compare_of Lt x y

abbrev pub le_of : Datum → Datum → Answer
le_of x y = compare_of Le x y

-- ---- by the node kind

-- a > b is b < a, and a >= b is b <= a
abbrev pub operators : List (ℕ × (Datum → Datum → Answer))
operators =
    (8, bit_and_of)
    ∷ (9, bit_or_of)
    ∷ (10, bit_xor_of)
    ∷ (11, lshift_of)
    ∷ (12, rshift_of)
    ∷ (13, add_of)
    ∷ (14, sub_of)
    ∷ (15, mul_of)
    ∷ (16, div_of)
    ∷ (17, mod_of)
    ∷ (18, eq_of)
    ∷ (19, ne_of)
    ∷ (20, lt_of)
    ∷ (21, le_of)
    ∷ (22, λ x y. lt_of y x)
    ∷ (23, λ x y. le_of y x)
    ∷ []

-- the operator in the line of kind k; the code answers 20 for any other number
abbrev pub line_of : List (ℕ × (Datum → Datum → Answer)) → ℕ → Datum → Datum → Answer
line_of [] k x y = fault wrong_kind
line_of (line ∷ lines) k x y = cond (eqb k line.0) (line.1 x y) (line_of lines k x y)

abbrev pub binary_of : ℕ → Datum → Datum → Answer
binary_of k x y = line_of operators k x y
