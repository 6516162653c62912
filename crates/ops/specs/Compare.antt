-- The comparisons of values, by document 01, "Values", and document 02, W4: a value, or 20.
use Rattle.std.specs.Prelude.{ℕ, Bool, not, ◌&&◌, cond, eqb, ℤ}
use Rattle.faults.specs.Numbers.{wrong_kind}
use Rattle.float.specs.Order.{order}
use Rattle.float.specs.Bits.{read}
use Rattle.float.specs.Standing.{standing}
use Rattle.int64.specs.Order.{order_z, holds}
use Rattle.int64.specs.declared.order.Cmp.{Cmp}
use Rattle.int64.specs.declared.order.Cmp.TheVariants.{Eq, Ne, Lt, Le, Gt, Ge}
use Rattle.value.specs.Value.{Datum, nil, bool, int, float, kind_of, payload_of}
use Rattle.value.specs.Answer.{Answer, fault, truth, is_number}

-- ---- order: numbers only

-- an Int with a Float: the true integer is compared with the float's exact value
unfoldable pub mixed : Cmp → ℤ → ℕ → Answer
mixed c n q = truth (holds c (standing n q))

-- a Float with an Int: the comparison with its operands exchanged
abbrev pub mirror : Cmp → Cmp
mirror Eq = Eq
mirror Ne = Ne
mirror Lt = Gt
mirror Le = Ge
mirror Gt = Lt
mirror Ge = Le

unfoldable pub compare_numbers : Cmp → Datum → Datum → Answer
compare_numbers c nil y = fault wrong_kind
compare_numbers c (bool b) y = fault wrong_kind
compare_numbers c (int a) nil = fault wrong_kind
compare_numbers c (int a) (bool b) = fault wrong_kind
compare_numbers c (int a) (int b) = truth (holds c (order_z a b))
compare_numbers c (int a) (float q) = mixed c a q
compare_numbers c (float p) nil = fault wrong_kind
compare_numbers c (float p) (bool b) = fault wrong_kind
compare_numbers c (float p) (int b) = mixed (mirror c) b p
compare_numbers c (float p) (float q) = truth (holds c (order (read p) (read q)))

-- ---- Eq, Ne: Nil and Bool too. Different kinds are unequal, but for an Int and a Float

-- one kind and one payload
unfoldable pub same : Datum → Datum → Bool
same x y = eqb (kind_of x) (kind_of y) && eqb (payload_of x) (payload_of y)

unfoldable pub compare_others : Cmp → Bool → Answer
compare_others Eq s = truth s
compare_others Ne s = truth (not s)
compare_others Lt s = fault wrong_kind
compare_others Le s = fault wrong_kind
compare_others Gt s = fault wrong_kind
compare_others Ge s = fault wrong_kind

unfoldable pub compare_of : Cmp → Datum → Datum → Answer
compare_of c x y = cond (is_number x && is_number y) (compare_numbers c x y) (compare_others c (same x y))
