-- An instruction as plain numbers: its opcode, and its operands in declared order, 0 where it has fewer than five. A signed operand is the two's
-- complement pattern of 64 bits.
use Rattle.std.specs.Prelude.{ℕ, List, [], ◌∷◌, get_or}
use Rattle.std.specs.Int.{w64}
use Rattle.std.proofs.Common.{of_z}
use Rattle.insns.specs.Fields.{Width, Operand, Operands}
use Rattle.insns.specs.Insns.{widths, form_of, operands_of}
use Rattle.insns.specs.Opcodes.{op_of}
use Rattle.insns.specs.declared.op.Op.{Op}
use Rattle.operands.specs.declared.of_op.PlainOp.{PlainOp}

abbrev pub plain : ℕ → ℕ → ℕ → ℕ → ℕ → ℕ → PlainOp
plain n a b c d e = record { opcode = n; a = a; b = b; c = c; d = d; e = e }

-- an operand as a number of 64 bits
abbrev pub pattern : (w : Width) → Operand w → ℕ
pattern (Width.unsigned w) v = v
pattern (Width.signed w) z = of_z w64 z
pattern (Width.displacement w) z = of_z w64 z
pattern Width.i40 z = of_z w64 z

abbrev pub patterns : (ws : List Width) → Operands ws → List ℕ
patterns [] vs = []
patterns (w ∷ ws) vs = pattern w vs.0 ∷ patterns ws vs.1

abbrev pub padded : ℕ → List ℕ → PlainOp
padded n ps = plain n (get_or ps 0 0) (get_or ps 1 0) (get_or ps 2 0) (get_or ps 3 0) (get_or ps 4 0)

abbrev pub plain_op : Op → PlainOp
plain_op i = padded (op_of (form_of i)) (patterns (widths (form_of i)) (operands_of i))
