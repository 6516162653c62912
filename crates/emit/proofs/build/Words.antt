-- A branch whose displacement is 0 has the word of its other operands: the field above them adds nothing.
use Rattle.std.specs.Prelude.{Option}
use Rattle.insns.specs.declared.Insn.{Insn}
use mathlib.Core.Path.{◌≡◌}
use mathlib.Core.Bool.{Bool, true, false}
use mathlib.Core.List.{[], ◌∷◌}
use Prim.Native.Nat.{ℕ}
use Rattle.insns.specs.Fields.{make, u}
use Rattle.insns.specs.Bits.{twos}
use Rattle.insns.specs.Insns.{made_of}
use Rattle.insns.specs.Opcodes.{jump_op, jump_imm_op}
use Rattle.insns.specs.declared.op.Cmp.{Cmp}
use Rattle.insns.specs.declared.op.Imm16.{Imm16}
use Rattle.insns.specs.declared.op.Op.{Op}
use Rattle.emit.specs.Jump.{to_patch, sense_of}
use Rattle.emit.specs.Read.{literal_bits}

pub test-yes : {sense : Bool} (val : ℕ) {r : Option Insn} → sense ≡ true → r ≡ make 43 (u 16 val ∷ []) → r ≡ made_of (Op.If (sense_of sense) val to_patch)
unfolding twos
test-yes val e h = rw e h

pub test-no : {sense : Bool} (val : ℕ) {r : Option Insn} → sense ≡ false → r ≡ make 44 (u 16 val ∷ []) → r ≡ made_of (Op.If (sense_of sense) val to_patch)
unfolding twos
test-no val e h = rw e h

pub jump-made : (k : Cmp) (a b : ℕ) {op : ℕ} {r : Option Insn} → op ≡ jump_op k → r ≡ make op (u 16 a ∷ u 16 b ∷ []) → r ≡ made_of (Op.Jump k a b to_patch)
unfolding twos
jump-made k a b o h = rw o at h

pub jump-imm-made : (k : Cmp) (a : ℕ) (imm : Imm16) {op n : ℕ} {r : Option Insn} → op ≡ jump_imm_op k → n ≡ literal_bits imm → r ≡ make op (u 16 a ∷ (65536, n) ∷ []) → r ≡ made_of (Op.JumpImm k a imm to_patch)
unfolding twos
jump-imm-made k a imm o e h = rw (o, e) at h

pub jmp-made : {r : Option Insn} → r ≡ make 65 [] → r ≡ made_of (Op.Jmp to_patch)
unfolding twos
jmp-made h = h

pub ruleset words = (test-yes, test-no, jump-made, jump-imm-made, jmp-made)
