-- The generator's words as position-free fragments: what is emitted, with every displacement in place. A fragment depends on its destination, its
-- first free register n and the slots taken so far. A branch fragment is given in addition the number of words between its end and the place where its
-- jumps go.
use Rattle.std.specs.Prelude.{Option, Some, None}
use Rattle.insns.specs.declared.op.Imm16.{Imm16}
use Prim.Native.Nat.{ℕ, suc, ◌+◌, ◌<◌, max}
use mathlib.Core.Logic.{◌≢◌}
use mathlib.Core.Bool.{Bool, true, false, not, cond}
use mathlib.Core.List.{List, [], ◌∷◌, ◌++◌}
use lib.ListN.{length}
use lib.IntN.{ℤ, pos}
use lib.Dec.{eqb}
use Rattle.insns.specs.declared.op.Op.{Op}
use Rattle.insns.specs.declared.op.Two.TheVariants as Two
use Rattle.insns.specs.declared.op.Slot.TheVariants as Slot
use Rattle.insns.specs.declared.op.Three.{Three}
use Rattle.insns.specs.declared.op.Sense.TheVariants as Sense
use Rattle.insns.specs.declared.op.Imm16.{Imm16 as Small}
use Rattle.insns.specs.declared.op.Imm40.{Imm40}
use Rattle.insns.specs.declared.op.Cmp.{Cmp as JumpCmp}
use Rattle.decode.specs.Aim.{branch_by}
use Rattle.decode.specs.declared.patch.Branch.{Branch}
use Rattle.value.specs.Value.{Datum}
use Rattle.value.specs.Value as Val
use Rattle.table.specs.Tree.{Tree, leaf, unary, binary, ternary, Leaf, nil, yep, nope, int, float, ref, Unary, minus, not', Cmp, Binary, arith, cmp, and, or}
use Rattle.fold.specs.declared.Tail.{Tail}
use Rattle.fold.specs.declared.How.{How}
use Rattle.fold.specs.Literal.{fits_imm40, as_imm16}
use Rattle.fold.specs.Fold.{fold_of, minus_one, tail_op, takes_shift, Picked, one, two, compare_pick}
use Rattle.fold.specs.Opcodes.{three_of, branch_of}
use Rattle.emit.specs.State.{seek, fresh}
use Rattle.emit.specs.Steps.{load_op, raw_nil, raw_true, raw_false, raw_int}
use Rattle.codegen.specs.Gen.{same}

-- ---- the words

abbrev pub const_op : ℕ → ℕ → Op
const_op k d = Op.Slot Slot.LoadConst d k

abbrev pub mov_op : ℕ → ℕ → Op
mov_op d r = Op.Two Two.Mov d r

-- a branch over k words
abbrev pub aimed : Branch → ℕ → Op
aimed b k = branch_by b (record { by = pos k })

abbrev pub jmp_by : ℕ → Op
jmp_by k = aimed Branch.Jmp k

abbrev pub test_on : Bool → ℕ → Branch
test_on s r = Branch.If (cond s Sense.Yes Sense.No) r

abbrev pub pair_on : JumpCmp → ℕ → ℕ → Branch
pair_on c r q = Branch.Jump c r q

abbrev pub imm_on : JumpCmp → Small → ℕ → Branch
imm_on c z r = Branch.JumpImm c r z

abbrev pub how_on : How → ℕ → Branch
how_on (How.Bool s) = test_on s
how_on (How.Imm c z) = imm_on c z

-- ---- destinations

-- i is not the destination
abbrev pub NotDst : Option ℕ → ℕ → Type 0
NotDst None i = Unit {0}
NotDst (Some d) i = i ≢ d

-- the destination, if there is one, is below n
abbrev pub DstLow : Option ℕ → ℕ → Type 0
DstLow None n = Unit {0}
DstLow (Some d) n = d < n

-- ---- fragments

-- the register taken, the first free one after, and the registers reached (0: no new one)
abbrev pub d_reg : Option ℕ → ℕ → ℕ
d_reg None n = n
d_reg (Some d) n = d

abbrev pub d_next : Option ℕ → ℕ → ℕ
d_next None n = suc n
d_next (Some d) n = n

abbrev pub d_need : Option ℕ → ℕ → ℕ
d_need None n = suc n
d_need (Some d) n = 0

pub record Vf : Type 0 where
  pub reg : ℕ
  pub next : ℕ
  pub need : ℕ
  pub consts : List Datum
  pub code : List Op

pub record Bf : Type 0 where
  pub need : ℕ
  pub consts : List Datum
  pub code : ℕ → List Op

abbrev pub ValueF : Type 0
ValueF = (Option ℕ) → ℕ → List Datum → Vf

abbrev pub BranchF : Type 0
BranchF = Bool → ℕ → List Datum → Bf

-- `first`: the left operand's value, of a binary operation; else the node's own
pub record Frag : Type 0 where
  pub value : ValueF
  pub branch : BranchF
  pub first : ValueF

-- operands' words, then one that writes the destination
abbrev pub op_f : Option ℕ → ℕ → ℕ → List Datum → List Op → (ℕ → Op) → Vf
op_f dst n m cs c i =
    record { reg = d_reg dst n; next = d_next dst n; need = max m (d_need dst n); consts = cs; code = c ++ i (d_reg dst n) ∷ [] }

abbrev pub ref_f : ℕ → ValueF
ref_f r dst n ks = record { reg = r; next = n; need = 0; consts = []; code = [] }

-- a raw immediate
abbrev pub load_f : Imm40 → ValueF
load_f z dst n ks = op_f dst n 0 [] [] (load_op z)

-- a value in the first slot that holds it, or else in a new one
abbrev pub const_f : Datum → ValueF
const_f v dst n ks = op_f dst n 0 (fresh v ks) [] (const_op (seek v ks))

abbrev pub int_f : Bool → ℤ → ValueF
int_f true z = load_f (raw_int z)
int_f false z = const_f (Val.int z)

-- operands' words, then the branch
abbrev pub leap_f : ℕ → List Datum → List Op → Branch → Bf
leap_f m cs c i = record { need = m; consts = cs; code = λ k. c ++ aimed i k ∷ [] }

abbrev pub moved : ℕ → ℕ → List Op
moved d r = cond (eqb r d) [] (mov_op d r ∷ [])

abbrev pub into_f : Vf → ℕ → ℕ → Vf
into_f v d n = record { reg = d; next = n; need = v.need; consts = v.consts; code = v.code ++ moved d v.reg }

abbrev pub unary_f : ValueF → (ℕ → ℕ → Op) → ValueF
unary_f v i dst n ks = let A = v None n ks in op_f dst n A.need A.consts A.code (λ d. i d A.reg)

-- the second of two operands, one after the other
abbrev pub second : ValueF → ValueF → ℕ → List Datum → Vf
second v w n ks = let A = v None n ks in w None A.next (ks ++ A.consts)

abbrev pub binary_f : ValueF → ValueF → (ℕ → ℕ → ℕ → Op) → ValueF
binary_f v w i dst n ks =
    let A = v None n ks in
    let B = second v w n ks in
    op_f dst n (max A.need B.need) (A.consts ++ B.consts) (A.code ++ B.code) (λ d. i d A.reg B.reg)

abbrev pub unary_test_f : ValueF → (ℕ → Branch) → ℕ → List Datum → Bf
unary_test_f v i n ks = let A = v None n ks in leap_f A.need A.consts A.code (i A.reg)

abbrev pub binary_test_f : ValueF → ValueF → (ℕ → ℕ → Branch) → ℕ → List Datum → Bf
binary_test_f v w i n ks =
    let A = v None n ks in
    let B = second v w n ks in
    leap_f (max A.need B.need) (A.consts ++ B.consts) (A.code ++ B.code) (i A.reg B.reg)

-- a test, words of one side, a jump over the other side, words of the other side
abbrev pub join_f : Option ℕ → ℕ → Bf → Vf → Vf → Vf
join_f dst n x a b =
    record {
      reg = d_reg dst n;
      next = d_next dst n;
      need = max (d_need dst n) (max x.need (max a.need b.need));
      consts = x.consts ++ a.consts ++ b.consts;
      code = x.code (suc (length a.code)) ++ (a.code ++ jmp_by (length b.code) ∷ b.code);
    }

abbrev pub cond_f : BranchF → ValueF
cond_f br dst n ks =
    let d = d_reg dst n in
    let m = d_next dst n in
    join_f dst n (br true m ks) (load_f raw_false (Some d) m ks) (load_f raw_true (Some d) m ks)

abbrev pub tern_f : BranchF → ValueF → ValueF → ValueF
tern_f br v w dst n ks =
    let d = d_reg dst n in
    let m = d_next dst n in
    let X = br false m ks in
    let A = into_f (v (Some d) m (ks ++ X.consts)) d m in
    let B = into_f (w (Some d) m (ks ++ X.consts ++ A.consts)) d m in
    join_f dst n X A B

-- one operand, then a fold's instruction
abbrev pub tail_f : Tail → ValueF → ValueF
tail_f tail v = unary_f v (tail_op tail)

abbrev pub operand_f : Tail → ValueF → ValueF → ValueF
operand_f tail a first = cond (takes_shift tail) first a

abbrev pub arith_f : Option Tail → Three → ValueF → ValueF → ValueF → ValueF
arith_f (Some tail) op a first b = tail_f tail (operand_f tail a first)
arith_f None op a first b = binary_f a b (Op.Three op)

abbrev pub picked_f : Picked ValueF → (ℕ → List Datum → Bf) → ℕ → List Datum → Bf
picked_f (one a how) both = unary_test_f a (how_on how)
picked_f two both = both

abbrev pub compare_f : Cmp → Option Imm16 → Option Imm16 → ValueF → ValueF → BranchF
compare_f c left right a b sense = picked_f (compare_pick c a b left right sense) (binary_test_f a b (pair_on (branch_of c sense)))

-- where the left side's jumps go, counted from the right side's end: to the caller's target (true), or to the end
abbrev pub junc_f : Bf → Bf → Bool → Bf
junc_f a b out =
    record {
      need = max a.need b.need;
      consts = a.consts ++ b.consts;
      code = λ k. a.code (length (b.code k) + cond out k 0) ++ b.code k;
    }

abbrev pub junc_b : Bool → BranchF → BranchF → BranchF
junc_b z x y sense n ks = junc_f (x z n ks) (y sense n (ks ++ (x z n ks).consts)) (same z sense)

abbrev pub plain_f : ValueF → ValueF → Frag
plain_f v first = record { value = v; branch = λ sense. unary_test_f v (test_on sense); first = first }

abbrev pub condition_f : BranchF → ValueF → Frag
condition_f br first = record { value = cond_f br; branch = br; first = first }

-- ---- the tree's

abbrev pub leaf_f : Leaf → ValueF
leaf_f nil = load_f raw_nil
leaf_f yep = load_f raw_true
leaf_f nope = load_f raw_false
leaf_f (int z) = int_f (fits_imm40 z) z
leaf_f (float p) = const_f (Val.float p)
leaf_f (ref r) = ref_f r

abbrev pub unary_n : Unary → Frag → Frag
unary_n minus a = plain_f (tail_f minus_one a.value) a.value
unary_n not' a = record { value = tail_f Tail.Not a.value; branch = λ sense. a.branch (not sense); first = a.value }

abbrev pub binary_n : Binary → Tree → Tree → Frag → Frag → Frag
binary_n (arith o) x y a b = plain_f (arith_f (fold_of o x y) (three_of o) a.value a.first b.value) a.value
binary_n (cmp c) x y a b = condition_f (compare_f c (as_imm16 x) (as_imm16 y) a.value b.value) a.value
binary_n and x y a b = condition_f (junc_b false a.branch b.branch) a.value
binary_n or x y a b = condition_f (junc_b true a.branch b.branch) a.value

unfoldable pub frag : Tree → Frag
frag (leaf l) = plain_f (leaf_f l) (leaf_f l)
frag (unary o a) = unary_n o (frag a)
frag (binary o a b) = binary_n o a b (frag a) (frag b)
frag (ternary c a b) = plain_f (tern_f (frag c).branch (frag a).value (frag b).value) (frag c).value
