-- Results that antt computes from the definitions.
use mathlib.Core.Path.{◌≡◌, refl}
use mathlib.Core.Bool.{true, false}
use lib.IntN.{pos, negsuc}
use Rattle.float.specs.Float as F
use Rattle.float.specs.Bits as Bits
use Rattle.float.specs.Order.{order}
use Rattle.float.specs.Standing.{standing}
use Rattle.value.specs.Value.{nil, bool, int, float}
use Rattle.faults.specs.Numbers.{wrong_kind, overflow, not_exact, bad_shift}
use Rattle.int64.specs.Int as I
use Rattle.int64.specs.Sign as Sign
use Rattle.int64.specs.Exact as Exact
use Rattle.int64.specs.Order.{order_z, holds}
use Rattle.value.specs.Answer.{is, fault, is_number}
use Rattle.ops.specs.Arith.{of_numbers, from_int, converted, floats, as_floats, arith_of, whole_of}
use Rattle.ops.specs.Compare.{mixed, compare_numbers, compare_others, compare_of, same}
use Rattle.ops.specs.Ops.{minus_of, div_of, add_of, mod_of, lshift_of, rshift_of, lt_of, le_of, eq_of}

-- case 10: Minus of -2^63
least : minus_of (int (negsuc 9223372036854775807)) ≡ fault overflow
unfolding arith_of of_numbers is_number as_floats converted floats from_int I.operate I.exact I.checked Exact.in_range Exact.arith
least = refl

-- case 4: a NaN is below nothing, and nothing is below it or equal
nan-lt : lt_of (float 0x7ff8000000000000) (int (pos 1)) ≡ is (bool false)
unfolding compare_of is_number compare_numbers mixed standing holds order_z order Bits.read Sign.negative Sign.with_sign
nan-lt = refl

nan-ge : le_of (int (pos 1)) (float 0x7ff8000000000000) ≡ is (bool false)
unfolding compare_of is_number compare_numbers mixed standing holds order_z order Bits.read Sign.negative Sign.with_sign
nan-ge = refl

-- document 02, W4: an Int that is no Float is compared as the number that it is
above : lt_of (float 0x4340000000000000) (int (pos 9007199254740993)) ≡ is (bool true)
unfolding compare_of is_number compare_numbers mixed standing holds order_z order Bits.read Sign.negative Sign.with_sign
above = refl

least-int : eq_of (int (negsuc 9223372036854775807)) (float 0xc3e0000000000000) ≡ is (bool true)
unfolding compare_of is_number compare_numbers mixed standing holds order_z order Bits.read Sign.negative Sign.with_sign
least-int = refl

below-2^63 : lt_of (int (pos 9223372036854775807)) (float 0x43e0000000000000) ≡ is (bool true)
unfolding compare_of is_number compare_numbers mixed standing holds order_z order Bits.read Sign.negative Sign.with_sign
below-2^63 = refl

-- -0 is +0
zeros : eq_of (float 0x8000000000000000) (float 0) ≡ is (bool true)
unfolding compare_of is_number compare_numbers mixed standing holds order_z order Bits.read Sign.negative Sign.with_sign
zeros = refl

-- the order of faults: a wrong kind before a large Int
kind-first : add_of (int (pos 9007199254740993)) nil ≡ fault wrong_kind
unfolding arith_of of_numbers is_number as_floats converted floats from_int I.operate I.exact I.checked Exact.in_range Exact.arith
kind-first = refl

large : add_of (int (pos 9007199254740993)) (float 0) ≡ fault not_exact
unfolding arith_of of_numbers is_number as_floats converted floats from_int I.operate I.exact I.checked Exact.in_range Exact.arith
large = refl

quotient : div_of (int (pos 1)) (int (pos 4)) ≡ is (float 0x3fd0000000000000)
unfolding of_numbers is_number as_floats converted floats F.operate F.div Bits.read F.of_int F.rounded F.halvings F.to_nearest
quotient = refl

remainder : mod_of (int (negsuc 6)) (int (pos 3)) ≡ is (int (negsuc 0))
unfolding whole_of from_int I.operate I.shl I.shr I.rem I.remainder I.floor Sign.negative Sign.with_sign I.exact I.checked Exact.in_range
remainder = refl

shift : rshift_of (int (negsuc 4)) (int (pos 1)) ≡ is (int (negsuc 2))
unfolding whole_of from_int I.operate I.shl I.shr I.rem I.remainder I.floor Sign.negative Sign.with_sign I.exact I.checked Exact.in_range
shift = refl

-- a bad amount before a result that is too large
too_far : lshift_of (int (pos 1)) (int (pos 64)) ≡ fault bad_shift
unfolding whole_of from_int I.operate I.shl I.shr I.rem I.remainder I.floor Sign.negative Sign.with_sign I.exact I.checked Exact.in_range
too_far = refl

equal : eq_of (int (pos 1)) (float 0x3ff0000000000000) ≡ is (bool true)
unfolding compare_of is_number compare_numbers mixed standing holds order_z order Bits.read Sign.negative Sign.with_sign
equal = refl

unlike : eq_of nil (int (pos 0)) ≡ is (bool false)
unfolding compare_of is_number compare_others same
unlike = refl
