-- The meaning of a tree on the values of its locals, as document 01 has it: a value, or the first fault.
use Rattle.std.specs.Prelude.{true, false, List, get_or}
use Rattle.table.specs.Tree as T
use Rattle.table.specs.Tree.{Leaf, Unary, Arith, Cmp, Binary, Tree}
use Rattle.value.specs.Value.{Datum, nil, bool, int, float}
use Rattle.value.specs.Answer.{Answer, is}
use Rattle.ops.specs.Not.{not_of}
use Rattle.ops.specs.Ops.{minus_of, bit_and_of, bit_or_of, bit_xor_of, lshift_of, rshift_of, add_of, sub_of, mul_of, div_of, mod_of, eq_of, ne_of, lt_of, le_of}
use Rattle.eval.specs.Apply.{on, both, whether, test}

-- ---- a literal is its value, a Ref the value of its local

unfoldable pub leaf_of : List Datum → Leaf → Answer
leaf_of ls T.nil = is nil
leaf_of ls T.yep = is (bool true)
leaf_of ls T.nope = is (bool false)
leaf_of ls (T.int z) = is (int z)
leaf_of ls (T.float p) = is (float p)
leaf_of ls (T.ref r) = is (get_or ls r nil)

-- ---- the operators on values

unfoldable pub unary_of : Unary → Datum → Answer
unary_of T.minus = minus_of
unary_of T.not' = not_of

unfoldable pub arith_of : Arith → Datum → Datum → Answer
arith_of T.bit_and = bit_and_of
arith_of T.bit_or = bit_or_of
arith_of T.bit_xor = bit_xor_of
arith_of T.lshift = lshift_of
arith_of T.rshift = rshift_of
arith_of T.add = add_of
arith_of T.sub = sub_of
arith_of T.mul = mul_of
arith_of T.div = div_of
arith_of T.mod' = mod_of

-- x > y is y < x, and x >= y is y <= x
unfoldable pub cmp_of : Cmp → Datum → Datum → Answer
cmp_of T.eq = eq_of
cmp_of T.ne = ne_of
cmp_of T.lt = lt_of
cmp_of T.le = le_of
cmp_of T.gt = λ x y. lt_of y x
cmp_of T.ge = λ x y. le_of y x

-- ---- on answers

unfoldable pub binary_of : Binary → Answer → Answer → Answer
binary_of (T.arith o) a b = both (arith_of o) a b
binary_of (T.cmp o) a b = both (cmp_of o) a b
binary_of T.and a b = whether a (test b) (is (bool false))
binary_of T.or a b = whether a (is (bool true)) (test b)

-- ---- a tree

unfoldable pub eval_of : List Datum → Tree → Answer
eval_of ls (T.leaf l) = leaf_of ls l
eval_of ls (T.unary o a) = on (unary_of o) (eval_of ls a)
eval_of ls (T.binary o a b) = binary_of o (eval_of ls a) (eval_of ls b)
eval_of ls (T.ternary a b c) = whether (eval_of ls a) (eval_of ls b) (eval_of ls c)
