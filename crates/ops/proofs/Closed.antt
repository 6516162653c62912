-- Every result of an operator has a lent form that reads back as itself, if its operands have.
use Rattle.std.specs.Prelude.{Option, Some, None}
use mathlib.Core.Path.{◌≡◌, refl}
use mathlib.Core.Bool.{Bool, true, false, cond, beq, ◌&&◌}
use Prim.Native.Nat.{ℕ, ◌+◌, ◌-◌, ◌*◌, ◌≤◌, ◌<◌, ◌^◌}
use native.Mathlib.Nat.{lt_of_le_of_lt, min-le_left}
use native.Mathlib.Omega.{arith}
use lib.Bits.{bit_and, bit_or, bit_xor, and_lt, or_lt, xor_lt}
use lib.Dec.{eqb, ltb, lit<}
use lib.IntN.{ℤ, pos, negsuc, nat_abs, ◌+ℤ◌, ◌-ℤ◌, ◌*ℤ◌}
use lib.Signed.{mag, mag_rem, mag_shr}
use mir.Syntax.{w64}
use mir.Val.{SFits, of_z}
use mir.Facts.{Fits-of_z, sfits_to_z}
use borrow.Author.Tests.{ltb-true}
use Rattle.faults.specs.Numbers.{overflow, mod_by_zero, bad_shift}
use Rattle.int64.specs.Int as I
use Rattle.int64.specs.Sign as Sign
use Rattle.int64.specs.Exact as Exact
use Rattle.int64.specs.declared.Op as IntOp
use Rattle.int64.specs.declared.Op.TheVariants as IO
use Rattle.int64.specs.declared.order.Cmp.{Cmp}
use Rattle.int64.specs.declared.order.Cmp.TheVariants.{Eq, Ne, Lt, Le, Gt, Ge}
use Rattle.float.specs.Float as F
use Rattle.float.specs.Bits as Bits
use Rattle.float.specs.Bits.{Real, nan, inf, fin, infinity, quiet}
use Rattle.float.specs.Float.{with_sign_bit, rounded, unlike, sum, negated}
use Rattle.float.specs.declared.Op as FloatOp
use Rattle.float.specs.declared.Op.TheVariants as FO
use Rattle.value.specs.Value.{Datum, nil, bool, int, float}
use Rattle.value.specs.Answer.{Answer, is, fault, is_number}
use Rattle.ops.specs.Arith.{of_numbers, from_int, converted, floats, as_floats, arith_of, whole_of}
use Rattle.ops.specs.Compare.{mixed, mirror, compare_numbers, compare_others, compare_of, same}
use Rattle.ops.specs.Not.{not_of, negate}
use Rattle.ops.specs.Ops.{minus_of, binary_of}
use Rattle.value.proofs.RoundTrip.{Holds}

abbrev pub Back : Answer → Type 0
Back (is v) = Holds v
Back (fault n) = Unit {0}

-- a value's lent form reads back as itself
pub record Held (r : Answer) : Type 0 where
  pub back : Back r

pub picks : (b : Bool) {x y : Answer} → Held x → Held y → Held (cond b x y)
picks true h k = h
picks false h k = k

-- ---- float results are patterns

abbrev pub Pattern : ℕ → Type 0
Pattern p = p < 2 ^ 64

either : (b : Bool) {x y : ℕ} → Pattern x → Pattern y → Pattern (cond b x y)
either true h k = h
either false h k = k

with-sign : (s : Bool) (q : ℕ) → q ≤ infinity → Pattern (with_sign_bit s q)
with-sign true q h = omega arith
with-sign false q h = omega arith

rounds : (s : Bool) (num den : ℕ) → Pattern (with_sign_bit s (rounded num den))
unfolding rounded
rounds s num den = with-sign s (rounded num den) (min-le_left _ _)

infinite : (s : Bool) → Pattern (with_sign_bit s infinity)
infinite true = omega arith
infinite false = omega arith

quiets : Pattern quiet
quiets = omega arith

sums : (s : Bool) (m : ℕ) (t : Bool) (n : ℕ) → Pattern (sum s m t n)
unfolding sum
sums s m t n = either (beq s t) (rounds s (m + n) 1) (either (ltb m n) (rounds t (n - m) 1) (rounds (s && ltb n m) (m - n) 1))

pub adds : (x y : Real) → Pattern (F.add x y)
unfolding F.add
adds nan y = quiets
adds (inf s) nan = quiets
adds (inf s) (inf t) = either (beq s t) (infinite s) quiets
adds (inf s) (fin t n) = infinite s
adds (fin s m) nan = quiets
adds (fin s m) (inf t) = infinite t
adds (fin s m) (fin t n) = sums s m t n

pub subs : (x y : Real) → Pattern (F.sub x y)
unfolding F.sub
subs x y = adds x (negated y)

pub muls : (x y : Real) → Pattern (F.mul x y)
unfolding F.mul
muls nan y = quiets
muls (inf s) nan = quiets
muls (inf s) (inf t) = infinite (unlike s t)
muls (inf s) (fin t n) = either (eqb n 0) quiets (infinite (unlike s t))
muls (fin s m) nan = quiets
muls (fin s m) (inf t) = either (eqb m 0) quiets (infinite (unlike s t))
muls (fin s m) (fin t n) = rounds (unlike s t) (m * n) (2 ^ 1074)

divs : (x y : Real) → Pattern (F.div x y)
unfolding F.div
divs nan y = quiets
divs (inf s) nan = quiets
divs (inf s) (inf t) = quiets
divs (inf s) (fin t n) = infinite (unlike s t)
divs (fin s m) nan = quiets
divs (fin s m) (inf t) = with-sign (unlike s t) 0 (omega arith)
divs (fin s m) (fin t n) = either (eqb n 0) (either (eqb m 0) quiets (infinite (unlike s t))) (rounds (unlike s t) (m * 2 ^ 1074) n)

-- ---- integers, by their operator

pub exact : (z : ℤ) → Held (from_int (I.exact z))
unfolding from_int I.exact I.checked Exact.in_range
exact z = go (Exact.in_range z) refl
  where
    go : (b : Bool) → Exact.in_range z ≡ b → Held (from_int (cond b (I.number z) (I.fault overflow)))
    go true e = record { back = record { sfits = ltb-true (mag z) (2 ^ 63) e } }
    go false e = record { back = tt }

within : (z a : ℤ) → mag z ≤ mag a → SFits w64 a → Held (from_int (I.number z))
unfolding from_int
within z a h s = record { back = record { sfits = lt_of_le_of_lt h s.sfits } }

shifts : (b : ℤ) (f : ℕ → I.Outcome) → ((k : ℕ) → Held (from_int (f k))) → Held (from_int (I.shifted b f))
unfolding from_int
shifts (pos k) f h = go (ltb k 64)
  where
    go : (t : Bool) → Held (from_int (cond t (f k) (I.fault bad_shift)))
    go true = h k
    go false = record { back = tt }
shifts (negsuc k) f h = record { back = tt }

bits : (f : ℕ → ℕ → ℕ) → ((a b : ℕ) → Pattern a → Pattern b → Pattern (f a b)) → (a b : ℤ) → SFits w64 a → SFits w64 b → Held (from_int (I.bitwise f a b))
unfolding from_int I.bitwise
bits f h a b s t = record { back = sfits_to_z {w = w64} (record { fits = h (of_z w64 a) (of_z w64 b) (Fits-of_z {w = w64} s).fits (Fits-of_z {w = w64} t).fits }) }

less : (a b : ℤ) → mag (I.remainder a b) ≤ mag a
unfolding I.remainder Sign.with_sign Sign.negative
less (pos n) b = mag_rem (pos n) b
less (negsuc n) b = mag_rem (negsuc n) b

remainders : (a b : ℤ) → SFits w64 a → Held (from_int (I.rem a b))
unfolding from_int I.rem
remainders a b s = go (eqb (nat_abs b) 0)
  where
    go : (t : Bool) → Held (from_int (cond t (I.fault mod_by_zero) (I.number (I.remainder a b))))
    go true = record { back = tt }
    go false = within (I.remainder a b) a (less a b) s

lefts : (a b : ℤ) → Held (from_int (I.shl a b))
unfolding I.shl
lefts a b = shifts b _ (λ k. exact (a *ℤ pos (2 ^ k)))

floors : (a : ℤ) (d : ℕ) → mag (I.floor a d) ≤ mag a
unfolding I.floor
floors (pos n) d = mag_shr (pos n) d
floors (negsuc n) d = mag_shr (negsuc n) d

rights : (a b : ℤ) → SFits w64 a → Held (from_int (I.shr a b))
unfolding I.shr
rights a b s = shifts b _ (λ k. within (I.floor a (2 ^ k)) a (floors a (2 ^ k)) s)

pub ints : (op : IntOp.Op) (a b : ℤ) → SFits w64 a → SFits w64 b → Held (from_int (I.operate op a b))
unfolding I.operate
ints IO.Add a b s t = exact (a +ℤ b)
ints IO.Sub a b s t = exact (a -ℤ b)
ints IO.Mul a b s t = exact (a *ℤ b)
ints IO.And a b s t = bits bit_and (and_lt 64) a b s t
ints IO.Or a b s t = bits bit_or (or_lt 64) a b s t
ints IO.Xor a b s t = bits bit_xor (xor_lt 64) a b s t
ints IO.Shl a b s t = lefts a b
ints IO.Shr a b s t = rights a b s
ints IO.Rem a b s t = remainders a b s

-- ---- each operator

operates : (op : FloatOp.Op) (x y : Real) → Pattern (F.operate op x y)
unfolding F.operate
operates FO.Add x y = adds x y
operates FO.Sub x y = subs x y
operates FO.Mul x y = muls x y
operates FO.Div x y = divs x y

made : (op : FloatOp.Op) (x y : Option ℕ) → Held (floats op x y)
unfolding floats
made op (Some p) (Some q) = record { back = operates op (Bits.read p) (Bits.read q) }
made op (Some p) None = record { back = tt }
made op None y = record { back = tt }

pub as_floats_lem : (op : FloatOp.Op) (x y : Datum) → Held (as_floats op x y)
unfolding as_floats of_numbers
as_floats_lem op x y = picks (is_number x && is_number y) (made op (converted x) (converted y)) (record { back = tt })

pub ariths : (i : IntOp.Op) (f : FloatOp.Op) (x y : Datum) → Holds x → Holds y → Held (arith_of i f x y)
unfolding arith_of
ariths i f nil y s t = as_floats_lem f nil y
ariths i f (bool b) y s t = as_floats_lem f (bool b) y
ariths i f (int a) nil s t = as_floats_lem f (int a) nil
ariths i f (int a) (bool b) s t = as_floats_lem f (int a) (bool b)
ariths i f (int a) (int b) s t = ints i a b s t
ariths i f (int a) (float q) s t = as_floats_lem f (int a) (float q)
ariths i f (float p) y s t = as_floats_lem f (float p) y

pub wholes : (op : IntOp.Op) (x y : Datum) → Holds x → Holds y → Held (whole_of op x y)
unfolding whole_of
wholes op nil y s t = record { back = tt }
wholes op (bool b) y s t = record { back = tt }
wholes op (int a) nil s t = record { back = tt }
wholes op (int a) (bool b) s t = record { back = tt }
wholes op (int a) (int b) s t = ints op a b s t
wholes op (int a) (float q) s t = record { back = tt }
wholes op (float p) y s t = record { back = tt }

mixes : (c : Cmp) (n : ℤ) (q : ℕ) → Held (mixed c n q)
unfolding mixed
mixes c n q = record { back = tt }

compared : (c : Cmp) (x y : Datum) → Held (compare_numbers c x y)
unfolding compare_numbers
compared c nil y = record { back = tt }
compared c (bool b) y = record { back = tt }
compared c (int a) nil = record { back = tt }
compared c (int a) (bool b) = record { back = tt }
compared c (int a) (int b) = record { back = tt }
compared c (int a) (float q) = mixes c a q
compared c (float p) nil = record { back = tt }
compared c (float p) (bool b) = record { back = tt }
compared c (float p) (int b) = mixes (mirror c) b p
compared c (float p) (float q) = record { back = tt }

others : (c : Cmp) (s : Bool) → Held (compare_others c s)
unfolding compare_others
others Eq s = record { back = tt }
others Ne s = record { back = tt }
others Lt s = record { back = tt }
others Le s = record { back = tt }
others Gt s = record { back = tt }
others Ge s = record { back = tt }

pub compares : (c : Cmp) (x y : Datum) → Held (compare_of c x y)
unfolding compare_of
compares c x y = picks (is_number x && is_number y) (compared c x y) (others c (same x y))

pub nots : (v : Datum) → Held (not_of v)
unfolding not_of
nots nil = record { back = tt }
nots (bool b) = record { back = tt }
nots (int n) = record { back = tt }
nots (float p) = record { back = tt }

pub negates : (r : Answer) → Held (negate r)
unfolding negate
negates (is v) = nots v
negates (fault n) = record { back = tt }

pub binaries : (k : ℕ) (x y : Datum) → Holds x → Holds y → Held (binary_of k x y)
binaries k x y s t =
    picks (eqb k 8) (wholes IO.And x y s t)
    (picks (eqb k 9) (wholes IO.Or x y s t)
    (picks (eqb k 10) (wholes IO.Xor x y s t)
    (picks (eqb k 11) (wholes IO.Shl x y s t)
    (picks (eqb k 12) (wholes IO.Shr x y s t)
    (picks (eqb k 13) (ariths IO.Add FO.Add x y s t)
    (picks (eqb k 14) (ariths IO.Sub FO.Sub x y s t)
    (picks (eqb k 15) (ariths IO.Mul FO.Mul x y s t)
    (picks (eqb k 16) (as_floats_lem FO.Div x y)
    (picks (eqb k 17) (wholes IO.Rem x y s t)
    (picks (eqb k 18) (compares Eq x y)
    (picks (eqb k 19) (compares Ne x y)
    (picks (eqb k 20) (compares Lt x y)
    (picks (eqb k 21) (compares Le x y)
    (picks (eqb k 22) (compares Lt y x)
    (picks (eqb k 23) (compares Le y x)
    (record { back = tt }))))))))))))))))

pub minuses : (x : Datum) → Holds x → Held (minus_of x)
minuses x s = ariths IO.Mul FO.Mul x (int (negsuc 0)) s (record { sfits = lit< tt })
