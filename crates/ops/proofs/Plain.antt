-- What the operators give for two Ints and for two Floats, in document 01's words.
use mathlib.Core.Path.{◌≡◌, refl}
use mathlib.Core.Bool.{Bool, true, false, cond}
use Prim.Native.Nat.{ℕ}
use lib.IntN.{ℤ, ◌+ℤ◌, ◌-ℤ◌, ◌*ℤ◌}
use Rattle.faults.specs.Numbers.{overflow}
use Rattle.int64.specs.Int as I
use Rattle.int64.specs.Exact.{in_range}
use Rattle.int64.specs.Order.{order_z, holds}
use Rattle.int64.specs.declared.Op as IntOp
use Rattle.int64.specs.declared.order.Cmp.{Cmp}
use Rattle.float.specs.Float as F
use Rattle.float.specs.Order.{order}
use Rattle.float.specs.Bits.{read}
use Rattle.float.specs.declared.Op as FloatOp
use Rattle.value.specs.Value.{int, float}
use Rattle.value.specs.Answer.{Answer, is, fault, truth, is_number}
use Rattle.ops.specs.Arith.{from_int, converted, floats, arith_of}
use Rattle.ops.specs.Compare.{compare_numbers, compare_of}
use Rattle.ops.specs.Ops.{add_of, sub_of, mul_of}

-- ---- Add, Sub, Mul: two Ints give the exact Int or 21

abbrev exact_or21 : ℤ → Answer
exact_or21 z = cond (in_range z) (is (int z)) (fault overflow)

picked : (t : Bool) (z : ℤ) → from_int (I.checked t z) ≡ cond t (is (int z)) (fault overflow)
unfolding from_int I.checked
picked true z = refl
picked false z = refl

module _ (a b : ℤ) where
  pub int-add : add_of (int a) (int b) ≡ exact_or21 (a +ℤ b)
  unfolding arith_of I.operate I.exact
  int-add = picked (in_range (a +ℤ b)) (a +ℤ b)

  pub int-sub : sub_of (int a) (int b) ≡ exact_or21 (a -ℤ b)
  unfolding arith_of I.operate I.exact
  int-sub = picked (in_range (a -ℤ b)) (a -ℤ b)

  pub int-mul : mul_of (int a) (int b) ≡ exact_or21 (a *ℤ b)
  unfolding arith_of I.operate I.exact
  int-mul = picked (in_range (a *ℤ b)) (a *ℤ b)

-- two Floats
pub float_arith : (i : IntOp.Op) (f : FloatOp.Op) (p q : ℕ) → arith_of i f (float p) (float q) ≡ is (float (F.operate f (read p) (read q)))
unfolding arith_of converted floats
float_arith i f p q = refl

-- ---- comparisons

pub int-compare : (c : Cmp) (a b : ℤ) → compare_of c (int a) (int b) ≡ truth (holds c (order_z a b))
unfolding compare_of is_number compare_numbers
int-compare c a b = refl

pub float-compare : (c : Cmp) (p q : ℕ) → compare_of c (float p) (float q) ≡ truth (holds c (order (read p) (read q)))
unfolding compare_of is_number compare_numbers
float-compare c p q = refl
