-- What an instruction takes in (01, "Emission rules"): a fixnum on the right of an operator, a literal of a comparison.
use Rattle.insns.specs.declared.op.Imm16.{Imm16}
use Rattle.std.specs.Prelude.{Bool, true, false, ℕ, ℤ, negsuc, Option, Some, None}
use Rattle.table.specs.Tree.{Arith, bit_and, bit_or, bit_xor, lshift, rshift, add, sub, mul, div, mod', Cmp}
use Rattle.table.specs.Tree.{Binary, arith, cmp, and, or, Tree, leaf, unary, binary, ternary}
use Rattle.insns.specs.declared.op.Op.{Op}
use Rattle.insns.specs.declared.op.Two.TheVariants as Two
use Rattle.insns.specs.declared.op.Arith.{Arith as ImmArith}
use Rattle.insns.specs.declared.op.Arith.TheVariants.{Plus, Minus, Times}
use Rattle.insns.specs.declared.op.Shift.{Shift}
use Rattle.fold.specs.declared.Tail.{Tail}
use Rattle.fold.specs.declared.How.{How}
use Rattle.fold.specs.Literal.{bit_run, const_of, imm_of, amount_of, amount_lit}
use Rattle.fold.specs.Opcodes.{mirror, branch_of}

-- ---- operators: an instruction of one register has a destination, that register and what it takes in, its tail

-- the amount by which a tree is a right shift, if that is a literal from 0 to 63
unfoldable pub shift_by : Binary → Tree → Option ℕ
shift_by (arith bit_and) b = None
shift_by (arith bit_or) b = None
shift_by (arith bit_xor) b = None
shift_by (arith lshift) b = None
shift_by (arith rshift) b = amount_lit (const_of b)
shift_by (arith add) b = None
shift_by (arith sub) b = None
shift_by (arith mul) b = None
shift_by (arith div) b = None
shift_by (arith mod') b = None
shift_by (cmp c) b = None
shift_by and b = None
shift_by or b = None

unfoldable pub shifted_by : Tree → Option ℕ
shifted_by (leaf l) = None
shifted_by (unary o a) = None
shifted_by (binary o a b) = shift_by o b
shifted_by (ternary c a b) = None

-- BitAnd by a mask of one run of ones, which takes in a right shift on its left
abbrev pub mask_fold : Option ℕ → Option (ℕ × ℕ) → Option Tail
mask_fold (Some k) (Some (lo, len)) = Some (Tail.ShiftMask k lo len)
mask_fold None (Some (lo, len)) = Some (Tail.Mask lo len)
mask_fold s None = None

-- a shift by 0 to 63
abbrev pub shift_fold : Shift → Option ℕ → Option Tail
shift_fold o (Some k) = Some (Tail.Shift o k)
shift_fold o None = None

-- Add, Sub and Mul from -32,768 to 32,767
abbrev pub imm_fold : ImmArith → Option Imm16 → Option Tail
imm_fold o (Some n) = Some (Tail.Imm o n)
imm_fold o None = None

-- the right operand is the fixnum z, the left one a right shift by s; if no immediate fits, the general form
unfoldable pub fold_by : Arith → Option ℕ → ℤ → Option Tail
fold_by bit_and s z = mask_fold s (bit_run z)
fold_by bit_or s z = None
fold_by bit_xor s z = None
fold_by lshift s z = shift_fold Shift.Left (amount_of z)
fold_by rshift s z = shift_fold Shift.Right (amount_of z)
fold_by add s z = imm_fold Plus (imm_of z)
fold_by sub s z = imm_fold Minus (imm_of z)
fold_by mul s z = imm_fold Times (imm_of z)
fold_by div s z = None
fold_by mod' s z = None

abbrev pub fold_lit : Arith → Option ℕ → Option ℤ → Option Tail
fold_lit o s (Some z) = fold_by o s z
fold_lit o s None = None

-- the operator o on the trees a and b
abbrev pub fold_of : Arith → Tree → Tree → Option Tail
fold_of o a b = fold_lit o (shifted_by a) (const_of b)

-- Minus is Mul by -1
abbrev pub minus_one : Tail
minus_one = Tail.Imm Times (record { n = negsuc 0 })

-- the instruction of a tail, from its destination and its register
abbrev pub tail_op : Tail → ℕ → ℕ → Op
tail_op Tail.Not d a = Op.Two Two.Not d a
tail_op (Tail.Imm o n) d a = Op.Arith o d a n
tail_op (Tail.Shift o k) d a = Op.Shift o d a k
tail_op (Tail.Mask lo len) d a = Op.BitAndMask d a lo len
tail_op (Tail.ShiftMask k lo len) d a = Op.RshiftMask d a k lo len

-- whether that register holds what the shift on the left shifts, and not the shifted value
abbrev pub takes_shift : Tail → Bool
takes_shift Tail.Not = false
takes_shift (Tail.Imm o n) = false
takes_shift (Tail.Shift o k) = false
takes_shift (Tail.Mask lo len) = false
takes_shift (Tail.ShiftMask k lo len) = true

-- ---- comparisons: a branch tests one operand, against a literal or as a Bool, or compares two registers

pub data Picked (A : Type 0) : Type 0 where
  one : A → How → Picked A
  two : Picked A

-- a literal of 16 bits is taken from the right, else from the left with the comparison mirrored; a and b stand for the operands
abbrev pub compare_pick : {A : Type 0} → Cmp → A → A → Option Imm16 → Option Imm16 → Bool → Picked A
compare_pick c a b l (Some n) sense = one a (How.Imm (branch_of c sense) n)
compare_pick c a b (Some n) None sense = one b (How.Imm (branch_of (mirror c) sense) n)
compare_pick c a b None None sense = two
