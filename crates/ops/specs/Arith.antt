-- The arithmetic and bit operators on values, by document 01, "Values": a value, or a fault. Within one operation 20 comes first, then 23, then
-- 22 or 24, then 21: each definition below asks in that order from the outside inward.
use Rattle.std.specs.Prelude.{ℕ, ◌^◌, ◌&&◌, cond, leb, ℤ, nat_abs, Option, Some, None}
use Rattle.faults.specs.Numbers.{wrong_kind, not_exact}
use Rattle.float.specs.Float as F
use Rattle.float.specs.Bits.{read}
use Rattle.int64.specs.Int as I
use Rattle.int64.specs.Int.{Outcome}
use Rattle.value.specs.Value.{Datum, nil, bool, int, float}
use Rattle.value.specs.Answer.{Answer, is, fault, is_number}
use Rattle.int64.specs.declared.Op as IntOp
use Rattle.float.specs.declared.Op as FloatOp

-- ---- 20: r, where both are numbers

unfoldable pub of_numbers : Datum → Datum → Answer → Answer
of_numbers x y r = cond (is_number x && is_number y) r (fault wrong_kind)

-- ---- 23: an Int in -2^53..2^53 is the Float of that value, any other is none

unfoldable pub converted : Datum → Option ℕ
converted nil = None
converted (bool b) = None
converted (int n) = cond (leb (nat_abs n) (2 ^ 53)) (Some (F.of_int n)) None
converted (float p) = Some p

unfoldable pub floats : FloatOp.Op → Option ℕ → Option ℕ → Answer
floats op (Some p) (Some q) = is (float (F.operate op (read p) (read q)))
floats op (Some p) None = fault not_exact
floats op None y = fault not_exact

-- ---- 22 or 24, and 21: the operators on two integers give them (`int64`)

unfoldable pub from_int : Outcome → Answer
from_int (I.number z) = is (int z)
from_int (I.fault n) = fault n

-- f of two Ints, and r of any other two
abbrev pub on_ints : (ℤ → ℤ → Answer) → Answer → Datum → Datum → Answer
on_ints f r nil y = r
on_ints f r (bool b) y = r
on_ints f r (int a) nil = r
on_ints f r (int a) (bool b) = r
on_ints f r (int a) (int b) = f a b
on_ints f r (int a) (float q) = r
on_ints f r (float p) y = r

-- ---- Div: both as Floats

unfoldable pub as_floats : FloatOp.Op → Datum → Datum → Answer
as_floats op x y = of_numbers x y (floats op (converted x) (converted y))

-- ---- Add, Sub, Mul: two Ints give the exact Int or 21; with a Float, each as a Float

unfoldable pub arith_of : IntOp.Op → FloatOp.Op → Datum → Datum → Answer
unfolding of_numbers is_number as_floats
arith_of i f x y = of_numbers x y (on_ints (λ a b. from_int (I.operate i a b)) (floats f (converted x) (converted y)) x y)

-- ---- Mod, the bit operators, the shifts: Ints only

unfoldable pub whole_of : IntOp.Op → Datum → Datum → Answer
whole_of op x y = on_ints (λ a b. from_int (I.operate op a b)) (fault wrong_kind) x y
