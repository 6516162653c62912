-- The generator: what each tree gives, as a value and as a branch (01, "Emission rules"). Branches are emitted with displacement 0 and patched once
-- their target is known. A line `(x, s₁) ← rule` of a `do` block is one step: its answer x and the state s₁ after it; a refusal ends the block.
use Rattle.insns.specs.declared.op.Imm16.{Imm16}
use Rattle.std.specs.Prelude.{Bool, true, false, not, cond, List, ℕ, ◌-◌, length, Option, Some, None}
use Rattle.table.specs.Tree.{Leaf, Unary, minus, not', Cmp, Binary, arith, cmp, and, or, Tree, leaf, unary, binary, ternary}
use Rattle.insns.specs.declared.op.Three.{Three}
use Rattle.insns.specs.declared.op.Cmp.{Cmp as JumpCmp}
use Rattle.fold.specs.declared.Tail.{Tail}
use Rattle.fold.specs.declared.How.{How}
use Rattle.fold.specs.Literal.{as_imm16}
use Rattle.fold.specs.Fold.{fold_of, minus_one, takes_shift, Picked, one, two, compare_pick}
use Rattle.fold.specs.Opcodes.{three_of, branch_of}
use Rattle.emit.specs.State.{Res, bind as ◌>>=◌, State, here, dest_d}
use Rattle.emit.specs.Steps.{leaf_d, tail_to, three_to, move_to}
use Rattle.emit.specs.Jump.{patch_d, one_to, pair_to, junction_to, bool_d, turn_d}

-- A value rule takes where the value is to go, the room in the jump list and the state, and gives the register that holds the value.
abbrev pub Value : Type 0
Value = (Option ℕ) → ℕ → State → Res (ℕ × State)

-- A branch rule takes the sense that jumps, and gives the positions of the jumps, which are still to be patched.
abbrev pub Branch : Type 0
Branch = Bool → ℕ → State → Res (List ℕ × State)

-- ---- values, over the rules of the operands

unfoldable pub leaf_v : Leaf → Value
leaf_v l dst room s = leaf_d l dst s

-- one operand in any register, then an instruction of one register
unfoldable pub one_v : Tail → Value → Value
one_v tail a dst room s = do
  x ← a None room s
  tail_to tail dst s.next x

-- both operands in any registers, then the instruction of two registers: the destination is written when both are read
unfoldable pub two_v : Three → Value → Value → Value
two_v op a b dst room s = do
  (x, s₁) ← a None room s
  y ← b None room s₁
  three_to op x dst s.next y

-- the operand of a fold: a mask that takes in a right shift has the shift's left operand, `first`
abbrev pub operand : Tail → Value → Value → Value
operand tail a first = cond (takes_shift tail) first a

-- a binary operator (`gen_bin_op`): a fold, or the general form
unfoldable pub binary_v : Option Tail → Three → Value → Value → Value → Value
binary_v (Some tail) op a first b dst room s = one_v tail (operand tail a first) dst room s
binary_v None op a first b dst room s = two_v op a b dst room s

-- a value in the register d (`gen_into`)
unfoldable pub into_d : Value → ℕ → ℕ → State → Res (ℕ × State)
into_d a d room s = do
  x ← a (Some d) room s
  move_to d s.next x

-- a condition as a value (`gen_cond_value`): its register, its branch if true, the two loads
unfoldable pub cond_v : Branch → Value
cond_v br dst room s = do
  (d, s₁) ← dest_d dst s
  (js, s₂) ← br true room s₁
  bool_d js d s₂

-- the arms of a ternary, both in the register d; the test's jumps js .0 are pending, and the then side gets the rest of the jump list
unfoldable pub arms_d : Value → Value → ℕ → ℕ → List ℕ × State → Res (ℕ × State)
arms_d a b d room js = do
  (_, s₁) ← into_d a d (room - length js.0) js.1
  (_, s₂) ← turn_d js.0 d s₁
  (_, s₃) ← into_d b d room s₂
  patch_d (here s₁) d s₃

-- a ternary: its register, its test's branch if false, its arms
unfoldable pub ternary_v : Branch → Value → Value → Value
ternary_v test a b dst room s = do
  (d, s₁) ← dest_d dst s
  js ← test false room s₁
  arms_d a b d room js

-- ---- branches (`gen_branch`), over the rules of the operands

-- a branch on one value
unfoldable pub one_b : How → Value → ℕ → State → Res (List ℕ × State)
one_b how a room s = do
  x ← a None room s
  one_to how room s.next x

-- anything but a comparison, And, Or and Not is evaluated and tested as a Bool
abbrev pub test_b : Value → Branch
test_b a sense room s = one_b (How.Bool sense) a room s

-- a branch that compares two registers
unfoldable pub pair_b : JumpCmp → Value → Value → ℕ → State → Res (List ℕ × State)
pair_b c a b room s = do
  (l, s₁) ← a None room s
  r ← b None room s₁
  pair_to c l room s.next r

abbrev pub picked_b : Picked Value → (ℕ → State → Res (List ℕ × State)) → ℕ → State → Res (List ℕ × State)
picked_b (one a how) both = one_b how a
picked_b two both = both

-- a comparison of a and b; left and right are their 16-bit literals, where they are literals
unfoldable pub compare_b : Cmp → Option Imm16 → Option Imm16 → Value → Value → Branch
compare_b c left right a b sense room s =
    picked_b (compare_pick c a b left right sense) (pair_b (branch_of c sense) a b) room s

-- whether a jump of the left side goes where the jumps of the whole go: `by` is the value that decides And or Or by itself
abbrev pub same : Bool → Bool → Bool
same true sense = sense
same false sense = not sense

-- And, which false decides, and Or, which true decides: the right side gets the later part of the jump list
unfoldable pub junction_b : Bool → Branch → Branch → Branch
junction_b by a b sense room s = do
  (js, s₁) ← a by room s
  y ← b sense (room - length js) s₁
  junction_to (same by sense) js y

-- ---- the rules of a tree; `first` is the value rule of a binary operator's left operand

pub record Gen : Type 0 where
  pub value : Value
  pub branch : Branch
  pub first : Value

-- a value, which is tested where a branch is asked for
abbrev pub plain : Value → Value → Gen
plain v first = record { value = v; branch = test_b v; first = first }

-- a condition, which is made a value where one is asked for
abbrev pub condition : Branch → Value → Gen
condition br first = record { value = cond_v br; branch = br; first = first }

-- Minus multiplies by -1; Not turns the sense of a branch round
abbrev pub unary_g : Unary → Gen → Gen
unary_g minus a = plain (one_v minus_one a.value) a.value
unary_g not' a =
    record { value = one_v Tail.Not a.value; branch = λ sense. a.branch (not sense); first = a.value }

abbrev pub binary_g : Binary → Tree → Tree → Gen → Gen → Gen
binary_g (arith o) x y a b = plain (binary_v (fold_of o x y) (three_of o) a.value a.first b.value) a.value
binary_g (cmp c) x y a b = condition (compare_b c (as_imm16 x) (as_imm16 y) a.value b.value) a.value
binary_g and x y a b = condition (junction_b false a.branch b.branch) a.value
binary_g or x y a b = condition (junction_b true a.branch b.branch) a.value

unfoldable pub gen : Tree → Gen
gen (leaf l) = plain (leaf_v l) (leaf_v l)
gen (unary o a) = unary_g o (gen a)
gen (binary o a b) = binary_g o a b (gen a) (gen b)
gen (ternary c a b) =
    plain (ternary_v (gen c).branch (gen a).value (gen b).value) (gen c).value
