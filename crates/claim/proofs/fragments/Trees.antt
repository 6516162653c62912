-- Every tree's fragment does what the tree's value says: peeking at literals, and the induction.
use Rattle.faults.specs.declared.Fault.{Fault}
use Rattle.std.specs.Prelude.{Option, Some, None}
use Rattle.insns.specs.declared.op.Imm16.{Imm16}
use mathlib.Core.Path.{◌≡◌, refl, sym, ap, ◌∙◌, subst}
use mathlib.Core.Bool.{Bool, true, false, not, cond}
use mathlib.Core.List.{List, [], ◌++◌}
use Prim.Native.Nat.{ℕ, ◌≤◌}
use native.Mathlib.Omega.{arith as linear}
use lib.IntN.{ℤ, pos, negsuc}
use lib.Dec.{ltb}
use Rattle.insns.specs.declared.op.Op.{Op}
use Rattle.insns.specs.declared.op.Imm16.{Imm16 as Small}
use Rattle.insns.specs.declared.op.Imm40.{Imm40}
use Rattle.insns.specs.declared.op.Sense.TheVariants as Sense
use Rattle.int64.specs.declared.order.Cmp.{Cmp as ValueCmp}
use Rattle.int64.specs.declared.order.Cmp.TheVariants as VC
use Rattle.value.specs.Value.{Datum}
use Rattle.value.specs.Value as Val
use Rattle.value.specs.Answer.{Answer, is, fault, is_number}
use Rattle.ops.specs.Not.{negate}
use Rattle.ops.specs.Compare.{mixed, compare_numbers, compare_others, compare_of, same as same_datum}
use Rattle.effect.specs.Effect as M
use Rattle.effect.specs.Forms as Forms
use Rattle.effect.proofs.EffectLaws.{shift-form, arith-form, if-form, jump-form, jump-imm-form}
use Rattle.effect.specs.Effect.{effect_of, write, branch}
use Rattle.table.specs.Tree.{Tree, leaf, unary, binary, ternary, Leaf, nil, yep, nope, int, float, ref, Unary, minus, not', Arith, bit_and, bit_or, bit_xor, lshift, rshift, add, sub, mul, div, mod', Cmp, eq, ne, lt, le, gt, ge, Binary, arith, cmp, and, or, RefBelow, RefsBelow}
use Rattle.eval.specs.Eval as E
use Rattle.eval.specs.Apply as Apply
use Rattle.eval.specs.Eval.{eval_of, leaf_of}
use Rattle.fold.specs.declared.Tail.{Tail}
use Rattle.fold.specs.Literal.{fits16, fits_imm40, is_fixnum, lit_of, fixnum, const_of, imm_of, imm_lit, as_imm16, amount_of, amount_lit}
use Rattle.fold.specs.Fold.{minus_one, shift_by, shifted_by, fold_of, tail_op, takes_shift}
use Rattle.fold.proofs.Folding.{Folding, general, mask, shift-mask, shift-left, shift-right, plus, minus as less, times, folding}
use Rattle.fold.proofs.literal.Runs.{run-exactly}
use Rattle.fold.specs.Opcodes.{three_of, mirror, branch_of}
use Rattle.emit.specs.Steps.{raw_nil, raw_true, raw_false, raw_int}
use Rattle.claim.proofs.fragments.Frag.{DstLow, ValueF, BranchF, Frag, d_reg, d_next, load_f, int_f, leaf_f, into_f, binary_f, unary_test_f, binary_test_f, tail_f, operand_f, arith_f, compare_f, imm_on, pair_on, test_on, cond_f, tern_f, junc_b, plain_f, condition_f, unary_n, binary_n, frag}
use Rattle.claim.proofs.fragments.Runs.{VSound, BSound, Truth, truth, wrong, test, same_t}
use Rattle.claim.proofs.fragments.Sound
use Rattle.claim.proofs.fragments.Laws.{mask_is, raw-nil, raw-true, raw-false, raw-int, three-is, both_left, both_right, opposite, jump-is, sense-is, mirror-is}

-- ---- results and tests

abbrev bool_r : Truth → Answer
bool_r (truth b) = is (Val.bool b)
bool_r (wrong e) = fault e

test-bool : (t : Truth) → test (bool_r t) ≡ t
test-bool (truth b) = refl
test-bool (wrong e) = refl

cond-join : (t : Truth) → Sound.join_r true t (is (Val.bool false)) (is (Val.bool true)) ≡ bool_r t
cond-join (truth true) = refl
cond-join (truth false) = refl
cond-join (wrong e) = refl

tern-join : (c a b : Answer) → Sound.join_r false (test c) a b ≡ Apply.whether c a b
unfolding Apply.whether
tern-join (is Val.nil) a b = refl
tern-join (is (Val.bool true)) a b = refl
tern-join (is (Val.bool false)) a b = refl
tern-join (is (Val.int z)) a b = refl
tern-join (is (Val.float p)) a b = refl
tern-join (fault e) a b = refl

tested : (b : Answer) → bool_r (test b) ≡ Apply.test b
unfolding Apply.test Apply.whether
tested (is Val.nil) = refl
tested (is (Val.bool true)) = refl
tested (is (Val.bool false)) = refl
tested (is (Val.int z)) = refl
tested (is (Val.float p)) = refl
tested (fault e) = refl

and_is : (a b : Answer) → bool_r (Sound.either_r false (test a) (test b)) ≡ E.binary_of and a b
unfolding E.binary_of Apply.whether
and_is (is Val.nil) b = refl
and_is (is (Val.bool true)) b = tested b
and_is (is (Val.bool false)) b = refl
and_is (is (Val.int z)) b = refl
and_is (is (Val.float p)) b = refl
and_is (fault e) b = refl

or_is : (a b : Answer) → bool_r (Sound.either_r true (test a) (test b)) ≡ E.binary_of or a b
unfolding E.binary_of Apply.whether
or_is (is Val.nil) b = refl
or_is (is (Val.bool true)) b = refl
or_is (is (Val.bool false)) b = tested b
or_is (is (Val.int z)) b = refl
or_is (is (Val.float p)) b = refl
or_is (fault e) b = refl

-- a comparison gives a Bool or a fault
others-bool : (c : ValueCmp) (s : Bool) → bool_r (test (compare_others c s)) ≡ compare_others c s
unfolding compare_others
others-bool VC.Eq s = refl
others-bool VC.Ne s = refl
others-bool VC.Lt s = refl
others-bool VC.Le s = refl
others-bool VC.Gt s = refl
others-bool VC.Ge s = refl

compare-bool : (c : ValueCmp) (x y : Datum) → bool_r (test (compare_of c x y)) ≡ compare_of c x y
unfolding compare_of compare_numbers is_number mixed
compare-bool c Val.nil y = others-bool c (same_datum Val.nil y)
compare-bool c (Val.bool b) y = others-bool c (same_datum (Val.bool b) y)
compare-bool c (Val.int a) Val.nil = others-bool c (same_datum (Val.int a) Val.nil)
compare-bool c (Val.int a) (Val.bool b) = others-bool c (same_datum (Val.int a) (Val.bool b))
compare-bool c (Val.int a) (Val.int b) = refl
compare-bool c (Val.int a) (Val.float q) = refl
compare-bool c (Val.float p) Val.nil = others-bool c (same_datum (Val.float p) Val.nil)
compare-bool c (Val.float p) (Val.bool b) = others-bool c (same_datum (Val.float p) (Val.bool b))
compare-bool c (Val.float p) (Val.int b) = refl
compare-bool c (Val.float p) (Val.float q) = refl

-- ---- what an instruction of one register makes of what is in it

abbrev tail_r : Tail → Answer → Answer
tail_r Tail.Not r = M.inverted r
tail_r (Tail.Imm o z) r = M.both (Forms.arith_kind o) r (M.literal z.n)
tail_r (Tail.Shift o k) r = M.both (Forms.shift_kind o) r (M.literal (pos k))
tail_r (Tail.Mask lo len) r = M.both 8 r (M.mask lo len)
tail_r (Tail.ShiftMask k lo len) r = M.both 8 (M.both 12 r (M.literal (pos k))) (M.mask lo len)

tail-asks : (tail : Tail) (reg slot : ℕ → Answer) (d r : ℕ) → effect_of reg slot (tail_op tail d r) ≡ write d (tail_r tail (reg r))
tail-asks Tail.Not reg slot d r = refl
tail-asks (Tail.Imm o z) reg slot d r = arith-form reg slot o d r z
tail-asks (Tail.Shift o k) reg slot d r = shift-form reg slot o d r k
tail-asks (Tail.Mask lo len) reg slot d r = refl
tail-asks (Tail.ShiftMask k lo len) reg slot d r = refl

tail-strict : (tail : Tail) (e : Fault) → tail_r tail (fault e) ≡ fault e
unfolding M.inverted M.both negate
tail-strict Tail.Not e = refl
tail-strict (Tail.Imm o z) e = refl
tail-strict (Tail.Shift o k) e = refl
tail-strict (Tail.Mask lo len) e = refl
tail-strict (Tail.ShiftMask k lo len) e = refl

three-asks : (o : Arith) (reg slot : ℕ → Answer) (d a b : ℕ) → effect_of reg slot (Op.Three (three_of o) d a b) ≡ write d (M.both (Forms.three_kind (three_of o)) (reg a) (reg b))
three-asks bit_and reg slot d a b = refl
three-asks bit_or reg slot d a b = refl
three-asks bit_xor reg slot d a b = refl
three-asks lshift reg slot d a b = refl
three-asks rshift reg slot d a b = refl
three-asks add reg slot d a b = refl
three-asks sub reg slot d a b = refl
three-asks mul reg slot d a b = refl
three-asks div reg slot d a b = refl
three-asks mod' reg slot d a b = refl

-- ---- peeking

-- a literal is worth its number
abbrev LitIs : Option ℤ → Answer → Type 0
LitIs (Some z) e = e ≡ is (Val.int z)
LitIs None e = Unit {0}

lit_is : (t : Tree) (ls : List Datum) → LitIs (lit_of t) (eval_of ls t)
unfolding lit_of eval_of leaf_of
lit_is (leaf nil) ls = tt
lit_is (leaf yep) ls = tt
lit_is (leaf nope) ls = tt
lit_is (leaf (int z)) ls = refl
lit_is (leaf (float p)) ls = tt
lit_is (leaf (ref r)) ls = tt
lit_is (unary o a) ls = tt
lit_is (binary o a b) ls = tt
lit_is (ternary c a b) ls = tt

fixnum-is : (l : Option ℤ) (e : Answer) → LitIs l e → LitIs (fixnum l) e
fixnum-is None e h = tt
fixnum-is (Some z) e h = go (is_fixnum z)
  where
    go : (t : Bool) → LitIs (cond t (Some z) None) e
    go true = h
    go false = tt

const-is : (t : Tree) (ls : List Datum) → LitIs (const_of t) (eval_of ls t)
const-is t ls = fixnum-is (lit_of t) (eval_of ls t) (lit_is t ls)

abbrev ImmIs : Option Imm16 → Answer → Type 0
ImmIs (Some z) e = e ≡ is (Val.int z.n)
ImmIs None e = Unit {0}

imm_of_lem : (z : ℤ) (e : Answer) → e ≡ is (Val.int z) → ImmIs (imm_of z) e
imm_of_lem z e h = go (fits16 z)
  where
    go : (t : Bool) → ImmIs (cond t (Some (record { n = z })) None) e
    go true = h
    go false = tt

imm-lit : (l : Option ℤ) (e : Answer) → LitIs l e → ImmIs (imm_lit l) e
imm-lit None e h = tt
imm-lit (Some z) e h = imm_of_lem z e h

imm-is : (t : Tree) (ls : List Datum) → ImmIs (as_imm16 t) (eval_of ls t)
imm-is t ls = imm-lit (lit_of t) (eval_of ls t) (lit_is t ls)

-- a shift's amount is a literal
abbrev AmountIs : Option ℕ → Answer → Type 0
AmountIs (Some k) e = e ≡ is (Val.int (pos k))
AmountIs None e = Unit {0}

amount-of : (z : ℤ) (e : Answer) → e ≡ is (Val.int z) → AmountIs (amount_of z) e
amount-of (negsuc n) e h = tt
amount-of (pos n) e h = go (ltb n 64)
  where
    go : (t : Bool) → AmountIs (cond t (Some n) None) e
    go true = h
    go false = tt

amount-lit : (l : Option ℤ) (e : Answer) → LitIs l e → AmountIs (amount_lit l) e
amount-lit None e h = tt
amount-lit (Some z) e h = amount-of z e h

-- the first child's value; a leaf's own
unfoldable pub first_of : List Datum → Tree → Answer
first_of ls (leaf l) = leaf_of ls l
first_of ls (unary o a) = eval_of ls a
first_of ls (binary o a b) = eval_of ls a
first_of ls (ternary c a b) = eval_of ls c

-- a shift by a literal is worth its left side, shifted
abbrev ShiftIs : Option ℕ → Answer → Answer → Type 0
ShiftIs (Some k) e e₁ = e ≡ Apply.both (E.arith_of rshift) e₁ (is (Val.int (pos k)))
ShiftIs None e e₁ = Unit {0}

shift-by : (s : Option ℕ) (ea eb : Answer) → AmountIs s eb → ShiftIs s (Apply.both (E.arith_of rshift) ea eb) ea
shift-by None ea eb h = tt
shift-by (Some k) ea eb h = ap (Apply.both (E.arith_of rshift) ea) h

shifted-is : (t : Tree) (ls : List Datum) → ShiftIs (shifted_by t) (eval_of ls t) (first_of ls t)
unfolding shifted_by shift_by eval_of first_of E.binary_of
shifted-is (leaf l) ls = tt
shifted-is (unary o a) ls = tt
shifted-is (binary (arith bit_and) a b) ls = tt
shifted-is (binary (arith bit_or) a b) ls = tt
shifted-is (binary (arith bit_xor) a b) ls = tt
shifted-is (binary (arith lshift) a b) ls = tt
shifted-is (binary (arith rshift) a b) ls =
    shift-by (amount_lit (const_of b)) (eval_of ls a) (eval_of ls b) (amount-lit (const_of b) (eval_of ls b) (const-is b ls))
shifted-is (binary (arith add) a b) ls = tt
shifted-is (binary (arith sub) a b) ls = tt
shifted-is (binary (arith mul) a b) ls = tt
shifted-is (binary (arith div) a b) ls = tt
shifted-is (binary (arith mod') a b) ls = tt
shifted-is (binary (cmp c) a b) ls = tt
shifted-is (binary and a b) ls = tt
shifted-is (binary or a b) ls = tt
shifted-is (ternary c a b) ls = tt

-- ---- what a fold may be used for

abbrev operand_r : Tail → Answer → Answer → Answer
operand_r tail a first = cond (takes_shift tail) first a

abbrev FoldIs : Option Tail → Arith → Answer → Answer → Answer → Type 0
FoldIs (Some tail) o ea e₁ eb = Apply.both (E.arith_of o) ea eb ≡ tail_r tail (operand_r tail ea e₁)
FoldIs None o ea e₁ eb = Unit {0}

-- the operator with a literal, as the machine has it
with-literal : (o : Arith) (z : ℤ) (ea eb : Answer) → eb ≡ is (Val.int z) → Apply.both (E.arith_of o) ea eb ≡ M.both (Forms.three_kind (three_of o)) ea (M.literal z)
with-literal o z ea eb h = ap (Apply.both (E.arith_of o) ea) h ∙ sym (three-is o ea (is (Val.int z)))

-- by the ways in which a fold comes about
folding-is :
    {o : Arith} {s : Option ℕ} {l : Option ℤ} {f : Option Tail} (ea e₁ eb : Answer) → ShiftIs s ea e₁ → LitIs l eb → Folding o s l f → FoldIs f o ea e₁ eb
folding-is ea e₁ eb hs h general = tt
folding-is ea e₁ eb hs h (mask {z} {lo} {len} e) =
    with-literal bit_and z ea eb h ∙ ap (λ (y : ℤ). M.both 8 ea (M.literal y)) (sym (mask_is z lo len ((run-exactly z lo len).0 e)))
folding-is ea e₁ eb hs h (shift-mask {k} {z} {lo} {len} e) =
    with-literal bit_and z ea eb h
    ∙ ap (λ (y : ℤ). M.both 8 ea (M.literal y)) (sym (mask_is z lo len ((run-exactly z lo len).0 e)))
    ∙ ap (λ (x : Answer). M.both 8 x (M.mask lo len)) (hs ∙ sym (three-is rshift e₁ (is (Val.int (pos k)))))
folding-is ea e₁ eb hs h (shift-left {s} {z} {k} e) = with-literal lshift (pos k) ea eb (subst (λ (a : Option ℕ). AmountIs a eb) e (amount-of z eb h))
folding-is ea e₁ eb hs h (shift-right {s} {z} {k} e) = with-literal rshift (pos k) ea eb (subst (λ (a : Option ℕ). AmountIs a eb) e (amount-of z eb h))
folding-is ea e₁ eb hs h (plus {s} {z} {n} e) = with-literal add n.n ea eb (subst (λ (i : Option Imm16). ImmIs i eb) e (imm_of_lem z eb h))
folding-is ea e₁ eb hs h (less {s} {z} {n} e) = with-literal sub n.n ea eb (subst (λ (i : Option Imm16). ImmIs i eb) e (imm_of_lem z eb h))
folding-is ea e₁ eb hs h (times {s} {z} {n} e) = with-literal mul n.n ea eb (subst (λ (i : Option Imm16). ImmIs i eb) e (imm_of_lem z eb h))

fold_is : (o : Arith) (a b : Tree) (ls : List Datum) → FoldIs (fold_of o a b) o (eval_of ls a) (first_of ls a) (eval_of ls b)
fold_is o a b ls = folding-is (eval_of ls a) (first_of ls a) (eval_of ls b) (shifted-is a ls) (const-is b ls) (folding o (shifted_by a) (const_of b))

cmp-bool : (c : Cmp) (x y : Datum) → bool_r (test (E.cmp_of c x y)) ≡ E.cmp_of c x y
unfolding E.cmp_of
cmp-bool eq x y = compare-bool VC.Eq x y
cmp-bool ne x y = compare-bool VC.Ne x y
cmp-bool lt x y = compare-bool VC.Lt x y
cmp-bool le x y = compare-bool VC.Le x y
cmp-bool gt x y = compare-bool VC.Lt y x
cmp-bool ge x y = compare-bool VC.Le y x

compared-bool : (c : Cmp) (a b : Answer) → bool_r (test (Apply.both (E.cmp_of c) a b)) ≡ Apply.both (E.cmp_of c) a b
unfolding Apply.both Apply.on
compared-bool c (is x) (is y) = cmp-bool c x y
compared-bool c (is x) (fault e) = refl
compared-bool c (fault e) b = refl

-- a comparison hands its operands' faults on
cmp-left : (c : Cmp) (e : Fault) (b : Answer) → test (Apply.both (E.cmp_of c) (fault e) b) ≡ wrong e
unfolding Apply.both
cmp-left c e b = refl

cmp-right : (c : Cmp) (x : Datum) (e : Fault) → test (Apply.both (E.cmp_of c) (is x) (fault e)) ≡ wrong e
unfolding Apply.both Apply.on
cmp-right c x e = refl

minus_is : (e : Answer) → tail_r minus_one e ≡ Apply.on (E.unary_of minus) e
unfolding M.both Apply.on E.unary_of
minus_is (is x) = refl
minus_is (fault n) = refl

not_is : (e : Answer) → M.inverted e ≡ Apply.on (E.unary_of not') e
unfolding M.inverted Apply.on E.unary_of negate
not_is (is x) = refl
not_is (fault n) = refl

-- ---- nodes

module _ (C : List ℕ) (W ls : List Datum) (b : ℕ) where
  abbrev pub Values : ValueF → Answer → Type 0
  Values v e = (dst : Option ℕ) (n : ℕ) (ks : List Datum) → b ≤ n → DstLow dst n → VSound C W ls b dst n ks (v dst n ks) e

  abbrev pub Branches : BranchF → Truth → Type 0
  Branches br t = (sense : Bool) (n : ℕ) (ks : List Datum) → b ≤ n → BSound C W ls b sense n ks (br sense n ks) t

  pub record TSound (F : Frag) (e e₁ : Answer) : Type 0 where
    pub values : Values F.value e
    pub branches : Branches F.branch (test e)
    pub firsts : Values F.first e₁

  value_as : {v : ValueF} {e f : Answer} → e ≡ f → Values v e → Values v f
  value_as {v} h s = subst (λ (x : Answer). Values v x) h s

  branch-as : {br : BranchF} {t u : Truth} → t ≡ u → Branches br t → Branches br u
  branch-as {br} h s = subst (λ (x : Truth). Branches br x) h s

  -- the words of one or two operands, then an instruction
  tail-values : (tail : Tail) (v : ValueF) (e : Answer) → Values v e → Values (tail_f tail v) (tail_r tail e)
  tail-values tail v e s dst n ks up low =
      let A = v None n ks in
      Sound.un-sound C W ls b n ks A e dst (λ d. tail_op tail d A.reg) (tail_r tail) low (s None n ks up tt)
      (λ reg slot d. tail-asks tail reg slot d A.reg) (tail-strict tail)

  three-values : (o : Arith) (v w : ValueF) (ea eb : Answer) → Values v ea → Values w eb → Values (binary_f v w (Op.Three (three_of o))) (Apply.both (E.arith_of o) ea eb)
  three-values o v w ea eb sa sb =
      value_as (three-is o ea eb)
      (λ dst n ks up low.
      let A = v None n ks in
      let va = sa None n ks up tt in
      let B = w None A.next (ks ++ A.consts) in
      let k = Forms.three_kind (three_of o) in
      Sound.bin-sound C W ls b n ks A B ea eb dst (λ d. Op.Three (three_of o) d A.reg B.reg) (M.both k) up low va
      (sb None A.next (ks ++ A.consts) (omega (linear, va.more)) tt) (λ reg slot d. three-asks o reg slot d A.reg B.reg) (both_left k) (both_right k))

  arith-values :
      (f : Option Tail) (o : Arith) (v w₁ w : ValueF) (ea e₁ eb : Answer) → FoldIs f o ea e₁ eb → Values v ea → Values w₁ e₁ → Values w eb →
      Values (arith_f f (three_of o) v w₁ w) (Apply.both (E.arith_of o) ea eb)
  arith-values None o v w₁ w ea e₁ eb h sa s₁ sb = three-values o v w ea eb sa sb
  arith-values (Some tail) o v w₁ w ea e₁ eb h sa s₁ sb =
      value_as (sym h) (tail-values tail (operand_f tail v w₁) (operand_r tail ea e₁) (operand (takes_shift tail)))
    where
      operand : (t : Bool) → Values (cond t w₁ v) (cond t e₁ ea)
      operand true = s₁
      operand false = sa

  -- a register against a literal: t is the test
  imm-branches :
      (c : Cmp) (z : Small) (v : ValueF) (e : Answer) (t : Answer → Truth) → ((x : Datum) → test (Apply.both (E.cmp_of c) (is x) (is (Val.int z.n))) ≡ t (is x)) →
      ((n : Fault) → t (fault n) ≡ wrong n) → Values v e → Branches (λ sense. unary_test_f v (imm_on (branch_of c sense) z)) (t e)
  imm-branches c z v e t h strict s sense n ks up =
      let A = v None n ks in
      Sound.un-leap C W ls b sense n ks A e (imm_on (branch_of c sense) z A.reg) (λ r. Forms.jump_test (branch_of c sense) r (M.literal z.n)) t (s None n ks up tt)
      (λ reg slot j. jump-imm-form reg slot (branch_of c sense) A.reg z (record { by = pos j })) (λ x. jump-is c sense (is x) (is (Val.int z.n)) ∙ ap (same_t sense) (h x)) strict

  pair-branches :
      (c : Cmp) (v w : ValueF) (ea eb : Answer) → Values v ea → Values w eb →
      Branches (λ sense. binary_test_f v w (pair_on (branch_of c sense))) (test (Apply.both (E.cmp_of c) ea eb))
  pair-branches c v w ea eb sa sb sense n ks up =
      let A = v None n ks in
      let va = sa None n ks up tt in
      let B = w None A.next (ks ++ A.consts) in
      Sound.bin-leap C W ls b sense n ks A B ea eb (pair_on (branch_of c sense) A.reg B.reg) (Forms.jump_test (branch_of c sense))
      (λ x y. test (Apply.both (E.cmp_of c) x y)) up va (sb None A.next (ks ++ A.consts) (omega (linear, va.more)) tt)
      (λ reg slot j. jump-form reg slot (branch_of c sense) A.reg B.reg (record { by = pos j })) (λ x y. jump-is c sense (is x) (is y)) (cmp-left c) (cmp-right c)

  compare-branches :
      (c : Cmp) (l r : Option Imm16) (v w : ValueF) (ea eb : Answer) → ImmIs l ea → ImmIs r eb → Values v ea → Values w eb →
      Branches (compare_f c l r v w) (test (Apply.both (E.cmp_of c) ea eb))
  compare-branches c l (Some z) v w ea eb hl hr sa sb sense n ks up =
      subst (λ (e : Answer). BSound C W ls b sense n ks (compare_f c l (Some z) v w sense n ks) (test (Apply.both (E.cmp_of c) ea e))) (sym hr)
      (imm-branches c z v ea (λ x. test (Apply.both (E.cmp_of c) x (is (Val.int z.n)))) (λ x. refl) (λ m. cmp-left c m (is (Val.int z.n))) sa sense n ks up)
  compare-branches c (Some z) None v w ea eb hl hr sa sb sense n ks up =
      subst (λ (e : Answer). BSound C W ls b sense n ks (compare_f c (Some z) None v w sense n ks) (test (Apply.both (E.cmp_of c) e eb))) (sym hl)
      (imm-branches (mirror c) z w eb (λ x. test (Apply.both (E.cmp_of c) (is (Val.int z.n)) x)) (λ x. ap test (mirror-is c z.n (is x))) (cmp-right c (Val.int z.n)) sb sense n ks
      up)
  compare-branches c None None v w ea eb hl hr sa sb sense n ks up = pair-branches c v w ea eb sa sb sense n ks up

  load-values : (z : Imm40) (v : Datum) → M.raw_of z.raw ≡ is v → Values (load_f z) (is v)
  load-values z v h dst n ks up low = Sound.load-sound C W ls b z v dst n ks h low

  cond-values : (br : BranchF) (t : Truth) → Branches br t → Values (cond_f br) (bool_r t)
  cond-values br t s dst n ks up low =
      let d = d_reg dst n in
      let m = d_next dst n in
      let low' = Sound.d-low dst n low in
      let up' : b ≤ m = omega (linear, Sound.d-more dst n) in
      let ks' = ks ++ (br true m ks).consts in
      rw (← cond-join t)
      (Sound.join-sound C W ls b true dst n ks (br true m ks) (load_f raw_false (Some d) m ks) (load_f raw_true (Some d) m ks) t (is (Val.bool false))
      (is (Val.bool true)) up low (s true m ks up') (load-values raw_false (Val.bool false) raw-false (Some d) m ks' up' low')
      (load-values raw_true (Val.bool true) raw-true (Some d) m (ks' ++ []) up' low') refl refl)

  tern-values :
      (br : BranchF) (v w : ValueF) (ec ea eb : Answer) → Branches br (test ec) → Values v ea → Values w eb → Values (tern_f br v w) (Apply.whether ec ea eb)
  tern-values br v w ec ea eb sc sa sb dst n ks up low =
      let d = d_reg dst n in
      let m = d_next dst n in
      let up' : b ≤ m = omega (linear, Sound.d-more dst n) in
      let low' = Sound.d-low dst n low in
      let X = br false m ks in
      let ks' = ks ++ X.consts in
      let A = into_f (v (Some d) m ks') d m in
      let ks'' = ks' ++ A.consts in
      rw (← tern-join ec ea eb)
      (Sound.join-sound C W ls b false dst n ks X A (into_f (w (Some d) m ks'') d m) (test ec) ea eb up low (sc false m ks up')
      (Sound.into-sound C W ls b d m ks' (v (Some d) m ks') ea low' (sa (Some d) m ks' up' low'))
      (Sound.into-sound C W ls b d m ks'' (w (Some d) m ks'') eb low' (sb (Some d) m ks'' up' low')) refl refl)

  int-values : (t : Bool) (z : ℤ) → fits_imm40 z ≡ t → Values (int_f t z) (is (Val.int z))
  int-values true z h = load-values (raw_int z) (Val.int z) (raw-int z h)
  int-values false z h = λ dst n ks up low. Sound.const-sound C W ls b (Val.int z) dst n ks low

  leaf-values : (l : Leaf) → RefBelow b l → Values (leaf_f l) (leaf_of ls l)
  unfolding leaf_of RefBelow
  leaf-values nil h = load-values raw_nil Val.nil raw-nil
  leaf-values yep h = load-values raw_true (Val.bool true) raw-true
  leaf-values nope h = load-values raw_false (Val.bool false) raw-false
  leaf-values (int z) h = int-values (fits_imm40 z) z refl
  leaf-values (float p) h = λ dst n ks up low. Sound.const-sound C W ls b (Val.float p) dst n ks low
  leaf-values (ref r) h = λ dst n ks up low. Sound.ref-sound C W ls b r dst n ks h up

  junc-branches : (z : Bool) (x y : BranchF) (ta tb : Truth) → Branches x ta → Branches y tb → Branches (junc_b z x y) (Sound.either_r z ta tb)
  junc-branches z x y ta tb sx sy sense n ks up =
      let X = x z n ks in
      Sound.junc-sound C W ls b z sense n ks X (y sense n (ks ++ X.consts)) ta tb up (sx z n ks up) (sy sense n (ks ++ X.consts) up)

  -- ---- the induction

  plain-sound : (v f : ValueF) (e e₁ : Answer) → Values v e → Values f e₁ → TSound (plain_f v f) e e₁
  plain-sound v f e e₁ s s₁ =
      record {
        values = s;
        branches =
            λ sense n ks up.
            let A = v None n ks in
            Sound.un-leap C W ls b sense n ks A e (test_on sense A.reg) (Forms.if_test (cond sense Sense.Yes Sense.No)) test (s None n ks up tt)
            (λ reg slot j. if-form reg slot (cond sense Sense.Yes Sense.No) A.reg (record { by = pos j })) (λ x. sense-is sense (is x)) (λ m. refl);
        firsts = s₁;
      }

  condition-sound : (br : BranchF) (f : ValueF) (t : Truth) (e e₁ : Answer) → bool_r t ≡ e → Branches br t → Values f e₁ → TSound (condition_f br f) e e₁
  condition-sound br f t e e₁ h s s₁ =
      record { values = value_as h (cond-values br t s); branches = branch-as (sym (test-bool t) ∙ ap test h) s; firsts = s₁ }

  unary-sound : (o : Unary) (F : Frag) (e e₁ : Answer) → TSound F e e₁ → TSound (unary_n o F) (Apply.on (E.unary_of o) e) e
  unary-sound minus F e e₁ s =
      plain-sound (tail_f minus_one F.value) F.value (Apply.on (E.unary_of minus) e) e (value_as (minus_is e) (tail-values minus_one F.value e s.values))
      s.values
  unary-sound not' F e e₁ s =
      record {
        values = value_as (not_is e) (tail-values Tail.Not F.value e s.values);
        branches =
            branch-as (sym (opposite e) ∙ ap test (not_is e))
            (λ sense n ks up. Sound.not_sound C W ls b sense n ks (F.branch (not sense) n ks) (test e) (s.branches (not sense) n ks up));
        firsts = s.values;
      }

  binary-sound :
      (o : Binary) (x y : Tree) (F G : Frag) → TSound F (eval_of ls x) (first_of ls x) → TSound G (eval_of ls y) (first_of ls y) →
      TSound (binary_n o x y F G) (E.binary_of o (eval_of ls x) (eval_of ls y)) (eval_of ls x)
  unfolding E.binary_of
  binary-sound (arith o) x y F G s t =
      plain-sound (arith_f (fold_of o x y) (three_of o) F.value F.first G.value) F.value (Apply.both (E.arith_of o) (eval_of ls x) (eval_of ls y)) (eval_of ls x)
      (arith-values (fold_of o x y) o F.value F.first G.value (eval_of ls x) (first_of ls x) (eval_of ls y) (fold_is o x y ls) s.values s.firsts
      t.values)
      s.values
  binary-sound (cmp c) x y F G s t =
      condition-sound (compare_f c (as_imm16 x) (as_imm16 y) F.value G.value) F.value (test (Apply.both (E.cmp_of c) (eval_of ls x) (eval_of ls y)))
      (Apply.both (E.cmp_of c) (eval_of ls x) (eval_of ls y)) (eval_of ls x) (compared-bool c (eval_of ls x) (eval_of ls y))
      (compare-branches c (as_imm16 x) (as_imm16 y) F.value G.value (eval_of ls x) (eval_of ls y) (imm-is x ls) (imm-is y ls) s.values t.values)
      s.values
  binary-sound and x y F G s t =
      condition-sound (junc_b false F.branch G.branch) F.value (Sound.either_r false (test (eval_of ls x)) (test (eval_of ls y)))
      (E.binary_of and (eval_of ls x) (eval_of ls y)) (eval_of ls x) (and_is (eval_of ls x) (eval_of ls y))
      (junc-branches false F.branch G.branch (test (eval_of ls x)) (test (eval_of ls y)) s.branches t.branches) s.values
  binary-sound or x y F G s t =
      condition-sound (junc_b true F.branch G.branch) F.value (Sound.either_r true (test (eval_of ls x)) (test (eval_of ls y)))
      (E.binary_of or (eval_of ls x) (eval_of ls y)) (eval_of ls x) (or_is (eval_of ls x) (eval_of ls y))
      (junc-branches true F.branch G.branch (test (eval_of ls x)) (test (eval_of ls y)) s.branches t.branches) s.values

  pub sound : (t : Tree) → RefsBelow b t → TSound (frag t) (eval_of ls t) (first_of ls t)
  unfolding frag eval_of first_of RefsBelow
  sound (leaf l) h = plain-sound (leaf_f l) (leaf_f l) (leaf_of ls l) (leaf_of ls l) (leaf-values l h) (leaf-values l h)
  sound (unary o a) h = unary-sound o (frag a) (eval_of ls a) (first_of ls a) (sound a h)
  sound (binary o x y) h = binary-sound o x y (frag x) (frag y) (sound x h.0) (sound y h.1)
  sound (ternary c x y) h =
      let s = sound c h.0 in
      plain-sound (tern_f (frag c).branch (frag x).value (frag y).value) (frag c).value (Apply.whether (eval_of ls c) (eval_of ls x) (eval_of ls y)) (eval_of ls c)
      (tern-values (frag c).branch (frag x).value (frag y).value (eval_of ls c) (eval_of ls x) (eval_of ls y) s.branches (sound x h.1).values
      (sound y h.2).values)
      s.values
