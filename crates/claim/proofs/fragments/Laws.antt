-- What folds and branches rest on, as laws over values: an immediate is its value, a mask word's mask is the literal that it was made of, an operator with a
-- literal is the operator, a branch of the other sense is the opposite, and a mirrored comparison is the comparison.
use Rattle.faults.specs.declared.Fault.{Fault}
use mathlib.Core.Path.{◌≡◌, refl, sym, ap, ◌∙◌}
use mathlib.Core.Bool.{Bool, true, false, cond, ◌&&◌}
use Prim.Native.Nat.{ℕ, suc, ◌+◌, ◌-◌, ◌*◌, ◌/◌, ◌^◌, ◌≤◌, ◌<◌}
use native.Mathlib.Omega.{arith}
use native.Mathlib.Nat.{mul-div_right, div-eq_of_lt-le, pow-le-pow_right, mod-eq_of_lt, mul-suc}
use lib.IntN.{ℤ, pos, negsuc, neg_ℤ}
use lib.Signed.{lt_z}
use lib.Pow.{pow-add, pow_pos}
use mir.Syntax.{w64}
use mir.Val.{to_z}
use borrow.Author.Tests.{ne_eqb, lt-ltb}
use Rattle.insns.specs.declared.op.Sense.TheVariants as Sense
use Rattle.value.specs.Value.{Datum, nil, bool, int, float}
use Rattle.value.specs.Answer.{Answer, is, fault, truth as yes, is_number}
use Rattle.ops.specs.Compare.{compare_numbers, compare_others, compare_of, same}
use Rattle.ops.specs.Not.{not_of, negate}
use Rattle.ops.specs.Ops.{eq_of, ne_of, binary_of}
use Rattle.ops.proofs.Comparing.{ne-is}
use Rattle.int64.specs.Mask.{mask_of}
use Rattle.int64.specs.Order.{order_z, is_equal}
use Rattle.int64.specs.Order as Order
use Rattle.effect.specs.Effect as M
use Rattle.effect.specs.Forms as Forms
use Rattle.table.specs.Tree.{Arith, bit_and, bit_or, bit_xor, lshift, rshift, add, sub, mul, div, mod', Cmp, eq, ne, lt, le, gt, ge}
use Rattle.eval.specs.Eval as E
use Rattle.eval.specs.Apply as Apply
use Rattle.fold.specs.Literal.{fits_imm40, OneRun}
use Rattle.fold.specs.Opcodes.{three_of, mirror, branch_of}
use Rattle.emit.specs.Steps.{raw_nil, raw_true, raw_false, raw_int}
use Rattle.claim.proofs.fragments.Runs.{Truth, truth, wrong, test, same_t}

-- ---- immediates

raw-down : (n : ℕ) → neg_ℤ (pos (4 * suc n)) ≡ negsuc (4 * n + 3)
raw-down n = let e : 4 * suc n ≡ suc (4 * n + 3) = omega arith in ap (λ (k : ℕ). neg_ℤ (pos k)) e

quarter : (n : ℕ) → (4 * n + 3) / 4 ≡ n
quarter n = div-eq_of_lt-le 4 (omega arith) (omega arith)

pub raw-nil : M.raw_of raw_nil.raw ≡ is nil
unfolding M.raw_of
raw-nil = refl

pub raw-true : M.raw_of raw_true.raw ≡ is (bool true)
unfolding M.raw_of
raw-true = refl

pub raw-false : M.raw_of raw_false.raw ≡ is (bool false)
unfolding M.raw_of
raw-false = refl

pub raw-int : (z : ℤ) → fits_imm40 z ≡ true → M.raw_of (raw_int z).raw ≡ is (int z)
unfolding M.raw_of
raw-int (pos n) h =
    rw (ne_eqb (4 * n) 1 (omega arith), ne_eqb (4 * n) 5 (omega arith), ne_eqb (4 * n) 9 (omega arith))
    (ap (λ (k : ℕ). is (int (pos k))) (mul-div_right n (omega arith)))
raw-int (negsuc n) h = rw (raw-down n) (ap (λ (k : ℕ). is (int (negsuc k))) (quarter n))

-- ---- one run of ones

pub and_both : (a b : Bool) → a && b ≡ true → (a ≡ true) × (b ≡ true)
and_both true b h = (refl, h)
and_both false b h = let z : ◌≡◌ {A = ℕ} 0 1 = cc in absurd (omega arith)

-- a mask word of that run reads as the number
pub mask_is : (z : ℤ) (lo len : ℕ) → OneRun z lo len → to_z w64 (mask_of lo len) ≡ z
unfolding mask_of
mask_is z lo len r = cut ∙ sym r.is
  where
    low : 2 ^ lo * (2 ^ len - 1) < 2 ^ 62
    low =
        let e : 2 ^ lo * 2 ^ len ≡ 2 ^ (lo + len) = sym (pow-add 2 lo len) in
        let u : 2 ^ (lo + len) ≤ 2 ^ 62 = pow-le-pow_right (omega arith) r.short in
        let s : 2 ^ lo * suc (2 ^ len - 1) ≡ 2 ^ lo * 2 ^ len = ap (λ (x : ℕ). 2 ^ lo * x) (omega (arith, pow_pos len)) in
        omega (arith, mul-suc (2 ^ lo) (2 ^ len - 1), pow_pos lo)

    cut : to_z w64 (mask_of lo len) ≡ pos (2 ^ lo * (2 ^ len - 1))
    cut =
        rw (mod-eq_of_lt {n = 2 ^ lo * (2 ^ len - 1)} {m = 2 ^ 64} (omega (arith, low)), lt-ltb (2 ^ lo * (2 ^ len - 1)) (2 ^ 63) (omega (arith, low)))

-- ---- operators: the machine's by number, the tree's by name

both_is : (k : ℕ) (f : Datum → Datum → Answer) → ((x y : Datum) → binary_of k x y ≡ f x y) → (a b : Answer) → M.both k a b ≡ Apply.both f a b
unfolding M.both Apply.both Apply.on
both_is k f e (is x) (is y) = e x y
both_is k f e (is x) (fault n) = refl
both_is k f e (fault n) b = refl

arith_is : (o : Arith) (x y : Datum) → binary_of (Forms.three_kind (three_of o)) x y ≡ E.arith_of o x y
unfolding E.arith_of
arith_is bit_and x y = refl
arith_is bit_or x y = refl
arith_is bit_xor x y = refl
arith_is lshift x y = refl
arith_is rshift x y = refl
arith_is add x y = refl
arith_is sub x y = refl
arith_is mul x y = refl
arith_is div x y = refl
arith_is mod' x y = refl

pub three-is : (o : Arith) (a b : Answer) → M.both (Forms.three_kind (three_of o)) a b ≡ Apply.both (E.arith_of o) a b
three-is o = both_is (Forms.three_kind (three_of o)) (E.arith_of o) (arith_is o)

-- an operand's fault is handed on
pub both_left : (k : ℕ) (e : Fault) (b : Answer) → M.both k (fault e) b ≡ fault e
unfolding M.both
both_left k e b = refl

pub both_right : (k : ℕ) (x : Datum) (e : Fault) → M.both k (is x) (fault e) ≡ fault e
unfolding M.both
both_right k x e = refl

-- ---- branches

pub opposite : (r : Answer) → test (M.inverted r) ≡ same_t false (test r)
unfolding M.inverted negate not_of
opposite (is nil) = refl
opposite (is (bool b)) = refl
opposite (is (int z)) = refl
opposite (is (float p)) = refl
opposite (fault e) = refl

as-it-is : (t : Truth) → t ≡ same_t true t
as-it-is (truth b) = refl
as-it-is (wrong e) = refl

twice : (t : Truth) → t ≡ same_t false (same_t false t)
twice (truth true) = refl
twice (truth false) = refl
twice (wrong e) = refl

cmp-is : (k : ℕ) (c : Cmp) → ((x y : Datum) → binary_of k x y ≡ E.cmp_of c x y) → (s : Bool) (a b : Answer) → test (cond s (M.both k a b) (M.inverted (M.both k a b))) ≡ same_t s (test (Apply.both (E.cmp_of c) a b))
cmp-is k c e true a b = ap test (both_is k (E.cmp_of c) e a b) ∙ as-it-is (test (Apply.both (E.cmp_of c) a b))
cmp-is k c e false a b = opposite (M.both k a b) ∙ ap (λ (r : Answer). same_t false (test r)) (both_is k (E.cmp_of c) e a b)

-- Ne is Not of Eq
ne-eq : (x y : Datum) → ne_of x y ≡ M.inverted (eq_of x y)
unfolding M.inverted
ne-eq x y = ne-is x y

not_equal : (a b : Answer) → Apply.both (E.cmp_of ne) a b ≡ M.inverted (Apply.both (E.cmp_of eq) a b)
unfolding Apply.both Apply.on E.cmp_of M.inverted negate
not_equal (is x) (is y) = ne-eq x y
not_equal (is x) (fault n) = refl
not_equal (fault n) b = refl

-- the branch for a comparison and a sense: not less is not less, also of a NaN and of a fault
pub jump-is : (c : Cmp) (s : Bool) (a b : Answer) → test (Forms.jump_test (branch_of c s) a b) ≡ same_t s (test (Apply.both (E.cmp_of c) a b))
unfolding Forms.jump_test E.cmp_of
jump-is eq true a b = cmp-is 18 eq (λ x y. refl) true a b
jump-is ne true a b = cmp-is 19 ne (λ x y. refl) true a b
jump-is lt true a b = cmp-is 20 lt (λ x y. refl) true a b
jump-is le true a b = cmp-is 21 le (λ x y. refl) true a b
jump-is gt true a b = cmp-is 22 gt (λ x y. refl) true a b
jump-is ge true a b = cmp-is 23 ge (λ x y. refl) true a b
jump-is eq false a b =
    cmp-is 19 ne (λ x y. refl) true a b ∙ sym (as-it-is (test (Apply.both (E.cmp_of ne) a b))) ∙ ap test (not_equal a b) ∙ opposite (Apply.both (E.cmp_of eq) a b)
jump-is ne false a b =
    cmp-is 18 eq (λ x y. refl) true a b ∙ sym (as-it-is (test (Apply.both (E.cmp_of eq) a b))) ∙ twice (test (Apply.both (E.cmp_of eq) a b))
    ∙ ap (same_t false) (sym (opposite (Apply.both (E.cmp_of eq) a b)) ∙ ap test (sym (not_equal a b)))
jump-is lt false a b = cmp-is 20 lt (λ x y. refl) false a b
jump-is le false a b = cmp-is 21 le (λ x y. refl) false a b
jump-is gt false a b = cmp-is 22 gt (λ x y. refl) false a b
jump-is ge false a b = cmp-is 23 ge (λ x y. refl) false a b

pub sense-is : (s : Bool) (r : Answer) → test (Forms.if_test (cond s Sense.Yes Sense.No) r) ≡ same_t s (test r)
unfolding Forms.if_test
sense-is true r = as-it-is (test r)
sense-is false r = opposite r

-- ---- a comparison with its operands exchanged

is_equal-sym : (a b : ℤ) → is_equal (order_z a b) ≡ is_equal (order_z b a)
unfolding order_z
is_equal-sym a b = go (lt_z a b) (lt_z b a)
  where
    go :
        (t u : Bool) →
        is_equal (cond t Order.less (cond u Order.greater Order.equal)) ≡ is_equal (cond u Order.less (cond t Order.greater Order.equal))
    go true true = refl
    go true false = refl
    go false true = refl
    go false false = refl

eq-sym : (z : ℤ) (x : Datum) → eq_of x (int z) ≡ eq_of (int z) x
unfolding compare_of compare_numbers compare_others is_number same Order.holds
eq-sym z nil = refl
eq-sym z (bool b) = refl
eq-sym z (int a) = ap yes (is_equal-sym a z)
eq-sym z (float p) = refl

ne-sym : (z : ℤ) (x : Datum) → ne_of x (int z) ≡ ne_of (int z) x
ne-sym z x = ne-eq x (int z) ∙ ap M.inverted (eq-sym z x) ∙ sym (ne-eq (int z) x)

mirrored : (c : Cmp) (z : ℤ) (x : Datum) → E.cmp_of (mirror c) x (int z) ≡ E.cmp_of c (int z) x
unfolding E.cmp_of
mirrored eq z x = eq-sym z x
mirrored ne z x = ne-sym z x
mirrored lt z x = refl
mirrored le z x = refl
mirrored gt z x = refl
mirrored ge z x = refl

pub mirror-is : (c : Cmp) (z : ℤ) (a : Answer) → Apply.both (E.cmp_of (mirror c)) a (is (int z)) ≡ Apply.both (E.cmp_of c) (is (int z)) a
unfolding Apply.both Apply.on
mirror-is c z (is x) = mirrored c z x
mirror-is c z (fault n) = refl
