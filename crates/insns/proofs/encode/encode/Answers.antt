-- `encode::encode` meets its contract: each arm knows which instruction i is, and hands on what the packing of its fields ensures.
use mathlib.Core.Path.{◌≡◌}
use mir.Syntax.{w16, w32, w64}
use mir.Val.{to_z, of_z}
use Rattle.insns.proofs.Arms.{arm-made}
use Rattle.insns.proofs.bits.Sign.{widens, widened}
use borrow.Author.Rules.{rules}
use Rattle.insns.proofs.encode.encode.Goals as goal

pub overflow_cast-imm : goal.overflow_cast-imm
overflow_cast-imm c = search (widens, rules)

pub overflow_cast-disp : goal.overflow_cast-disp
overflow_cast-disp c = search (widens, rules)

pub overflow_cast-disp-in-Jump : goal.overflow_cast-disp-in-Jump
overflow_cast-disp-in-Jump c = search (widens, rules)

pub overflow_cast-imm-in-JumpImm : goal.overflow_cast-imm-in-JumpImm
overflow_cast-imm-in-JumpImm c = search (widens, rules)

pub overflow_cast-disp-in-JumpImm : goal.overflow_cast-disp-in-JumpImm
overflow_cast-disp-in-JumpImm c = search (widens, rules)

pub overflow_cast-disp-in-Jmp : goal.overflow_cast-disp-in-Jmp
overflow_cast-disp-in-Jmp c = search (widens, rules)

pub returns-in-Bare : goal.returns-in-Bare
returns-in-Bare c = arm-made c.in-Bare.is (rw c.bare_op.ensures at c.make.ensures)

pub returns-in-LoadImm40 : goal.returns-in-LoadImm40
returns-in-LoadImm40 c = arm-made c.in-LoadImm40.is (rw c.raw_bits.ensures at c.make-in-LoadImm40.ensures)

pub returns-in-Two : goal.returns-in-Two
returns-in-Two c = arm-made c.in-Two.is (rw c.two_op.ensures at c.two_word.ensures)

pub returns-in-Slot : goal.returns-in-Slot
returns-in-Slot c = arm-made c.in-Slot.is (rw c.slot_op.ensures at c.slot_word.ensures)

pub returns-in-Three : goal.returns-in-Three
returns-in-Three c = arm-made c.in-Three.is (rw c.three_op.ensures at c.three_word.ensures)

pub returns-in-Shift : goal.returns-in-Shift
returns-in-Shift c = arm-made c.in-Shift.is (rw c.shift_op.ensures at c.shift_word.ensures)

pub returns-in-BitAndMask : goal.returns-in-BitAndMask
returns-in-BitAndMask c = arm-made c.in-BitAndMask.is c.bit_and_mask_word.ensures

pub returns-in-RshiftMask : goal.returns-in-RshiftMask
returns-in-RshiftMask c = arm-made c.in-RshiftMask.is c.rshift_mask_word.ensures

pub returns-in-Arith : goal.returns-in-Arith
returns-in-Arith c = let e : to_z w64 (of_z w64 (to_z w16 (of_z w16 c.in-Arith.imm.n))) ≡ c.in-Arith.imm.n = search (widened, rules) in arm-made c.in-Arith.is (rw (c.arith_op.ensures, c.signed_bits.ensures, e) at c.make-in-Arith.ensures)

pub returns-in-ClosNew : goal.returns-in-ClosNew
returns-in-ClosNew c = arm-made c.in-ClosNew.is c.clos_new_word.ensures

pub returns-in-ClosSet : goal.returns-in-ClosSet
returns-in-ClosSet c = arm-made c.in-ClosSet.is c.clos_set_word.ensures

pub returns-in-ClosGet : goal.returns-in-ClosGet
returns-in-ClosGet c = arm-made c.in-ClosGet.is c.clos_get_word.ensures

pub returns-in-One : goal.returns-in-One
returns-in-One c = arm-made c.in-One.is (rw c.one_op.ensures at c.one_word.ensures)

pub returns-in-Wide : goal.returns-in-Wide
returns-in-Wide c = arm-made c.in-Wide.is (rw c.wide_op.ensures at c.wide_word.ensures)

pub returns-in-If : goal.returns-in-If
returns-in-If c = let e : to_z w64 (of_z w64 (to_z w32 (of_z w32 c.in-If.disp.by))) ≡ c.in-If.disp.by = search (widened, rules) in arm-made c.in-If.is (rw (c.if_op.ensures, c.signed_bits-in-If.ensures, e) at c.make-in-If.ensures)

pub returns-in-Jump : goal.returns-in-Jump
returns-in-Jump c = let e : to_z w64 (of_z w64 (to_z w32 (of_z w32 c.in-Jump.disp.by))) ≡ c.in-Jump.disp.by = search (widened, rules) in arm-made c.in-Jump.is (rw (c.jump_op.ensures, c.signed_bits-in-Jump.ensures, e) at c.make-in-Jump.ensures)

pub returns-in-JumpImm : goal.returns-in-JumpImm
returns-in-JumpImm c = let e : to_z w64 (of_z w64 (to_z w16 (of_z w16 c.in-JumpImm.imm.n))) ≡ c.in-JumpImm.imm.n = search (widened, rules) in let f : to_z w64 (of_z w64 (to_z w32 (of_z w32 c.in-JumpImm.disp.by))) ≡ c.in-JumpImm.disp.by = search (widened, rules) in arm-made c.in-JumpImm.is (rw (c.jump_imm_op.ensures, c.signed_bits-in-JumpImm.ensures, e, c.signed_bits-in-JumpImm-2.ensures, f) at c.make-in-JumpImm.ensures)

pub returns-in-Jmp : goal.returns-in-Jmp
returns-in-Jmp c = let e : to_z w64 (of_z w64 (to_z w32 (of_z w32 c.in-Jmp.disp.by))) ≡ c.in-Jmp.disp.by = search (widened, rules) in arm-made c.in-Jmp.is (rw (c.signed_bits-in-Jmp.ensures, e) at c.make-in-Jmp.ensures)

pub returns-in-Call : goal.returns-in-Call
returns-in-Call c = arm-made c.in-Call.is (rw c.call_op.ensures at c.call_word.ensures)

pub returns-in-CallHost : goal.returns-in-CallHost
returns-in-CallHost c = arm-made c.in-CallHost.is c.call_host_word.ensures

pub returns-in-ById : goal.returns-in-ById
returns-in-ById c = arm-made c.in-ById.is (rw c.by_id_op.ensures at c.by_id_word.ensures)

pub returns-in-CallMethodHost : goal.returns-in-CallMethodHost
returns-in-CallMethodHost c = arm-made c.in-CallMethodHost.is c.call_method_host_word.ensures

pub returns-in-RetImm40 : goal.returns-in-RetImm40
returns-in-RetImm40 c = arm-made c.in-RetImm40.is (rw c.raw_bits-in-RetImm40.ensures at c.make-in-RetImm40.ensures)
