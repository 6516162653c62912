-- The steps that the generator's rules are made of: leaves, and what is done with an operand once its value is in a register.
use Rattle.std.specs.Prelude.{cond, ℕ, eqb, ℤ, pos, ◌*ℤ◌, Option}
use Rattle.value.specs.Value.{Datum}
use Rattle.value.specs.Value as Val
use Rattle.table.specs.Tree.{Leaf, nil, yep, nope, int, float, ref}
use Rattle.insns.specs.declared.op.Op.{Op}
use Rattle.insns.specs.declared.op.Imm40.{Imm40}
use Rattle.insns.specs.declared.op.Two.TheVariants as Two
use Rattle.insns.specs.declared.op.Slot.TheVariants as Slot
use Rattle.insns.specs.declared.op.Three.{Three}
use Rattle.fold.specs.declared.Tail.{Tail}
use Rattle.emit.specs.State.{Res, done, bind as ◌>>=◌, State, release, dest_d, slot_d, emit_d}
use Rattle.fold.specs.Literal.{fits_imm40}
use Rattle.fold.specs.Fold.{tail_op}

-- ---- an instruction that makes a value

-- its destination, then the instruction
unfoldable pub put_d : (ℕ → Op) → Option ℕ → State → Res (ℕ × State)
put_d op dst s = do
  (d, s₁) ← dest_d dst s
  emit_d (op d) d s₁

-- an immediate, by its raw bits
abbrev pub load_op : Imm40 → ℕ → Op
load_op raw d = Op.LoadImm40 d raw

abbrev pub raw_nil : Imm40
raw_nil = record { raw = pos 1 }

abbrev pub raw_true : Imm40
raw_true = record { raw = pos 9 }

abbrev pub raw_false : Imm40
raw_false = record { raw = pos 5 }

abbrev pub raw_int : ℤ → Imm40
raw_int z = record { raw = pos 4 *ℤ z }

-- a constant: its register, then its slot and its word
unfoldable pub const_to : Datum → ℕ × State → Res (ℕ × State)
const_to c x = do
  (k, s) ← slot_d c x.1
  emit_d (Op.Slot Slot.LoadConst x.0 k) x.0 s

unfoldable pub const_d : Datum → Option ℕ → State → Res (ℕ × State)
const_d c dst s = do
  x ← dest_d dst s
  const_to c x

-- a leaf: an immediate, a constant, or the register that a Ref names (`gen_value`, `gen_var_read`)
unfoldable pub leaf_d : Leaf → Option ℕ → State → Res (ℕ × State)
leaf_d nil dst s = put_d (load_op raw_nil) dst s
leaf_d yep dst s = put_d (load_op raw_true) dst s
leaf_d nope dst s = put_d (load_op raw_false) dst s
leaf_d (int z) dst s = cond (fits_imm40 z) (put_d (load_op (raw_int z)) dst s) (const_d (Val.int z) dst s)
leaf_d (float p) dst s = const_d (Val.float p) dst s
leaf_d (ref r) dst s = done (r, s)

-- the last operand is in the register x .0: its registers are released, and the instruction follows
unfoldable pub put_to : (ℕ → ℕ → Op) → Option ℕ → ℕ → ℕ × State → Res (ℕ × State)
put_to op dst mark x = put_d (op x.0) dst (release mark x.1)

-- an instruction of one register
abbrev pub tail_to : Tail → Option ℕ → ℕ → ℕ × State → Res (ℕ × State)
tail_to tail dst mark = put_to (λ a d. tail_op tail d a) dst mark

-- one of two registers; the left operand is in a
abbrev pub three_to : Three → ℕ → Option ℕ → ℕ → ℕ × State → Res (ℕ × State)
three_to op a dst mark = put_to (λ b d. Op.Three op d a b) dst mark

-- a mov to the register d, unless the value is there already
unfoldable pub move_to : ℕ → ℕ → ℕ × State → Res (ℕ × State)
move_to d mark x = cond (eqb x.0 d) (done (d, release mark x.1)) (emit_d (Op.Two Two.Mov d x.0) d (release mark x.1))
