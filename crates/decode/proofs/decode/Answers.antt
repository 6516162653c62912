-- `decode` meets its contract: each arm knows the form of the opcode, and hands on what the cutting of its fields ensures.
use native.Mathlib.Omega.{arith}
use mir.Syntax.{w16, w32, w64}
use Rattle.insns.proofs.bits.Sign.{back}
use Rattle.decode.proofs.Sign.{narrows, narrowed}
use Rattle.decode.proofs.Table.{arm, no-form}
use Rattle.decode.proofs.decode.Goals as goal

pub overflow_cast-imm : goal.overflow_cast-imm
overflow_cast-imm c = narrows w16 c.signed_of-in-Arith.ensures (omega arith) (omega arith) (omega arith)

pub overflow_cast-disp : goal.overflow_cast-disp
overflow_cast-disp c = narrows w32 c.signed_of-in-If.ensures (omega arith) (omega arith) (omega arith)

pub overflow_cast-disp-in-Jump : goal.overflow_cast-disp-in-Jump
overflow_cast-disp-in-Jump c = narrows w32 c.signed_of-in-Jump.ensures (omega arith) (omega arith) (omega arith)

pub overflow_cast-imm-in-JumpImm : goal.overflow_cast-imm-in-JumpImm
overflow_cast-imm-in-JumpImm c = narrows w16 c.signed_of-in-JumpImm.ensures (omega arith) (omega arith) (omega arith)

pub overflow_cast-disp-in-JumpImm : goal.overflow_cast-disp-in-JumpImm
overflow_cast-disp-in-JumpImm c = narrows w32 c.signed_of-in-JumpImm-2.ensures (omega arith) (omega arith) (omega arith)

pub overflow_cast-disp-in-Jmp : goal.overflow_cast-disp-in-Jmp
overflow_cast-disp-in-Jmp c = narrows w32 c.signed_of-in-Jmp.ensures (omega arith) (omega arith) (omega arith)

pub returns-in-Bare : goal.returns-in-Bare
returns-in-Bare c = arm c.args.w c.form.ensures c.in-Bare.is c.if_whole.ensures

pub returns-in-LoadImm40 : goal.returns-in-LoadImm40
returns-in-LoadImm40 c = arm c.args.w c.form.ensures c.in-LoadImm40.is (rw (c.if_whole-in-LoadImm40.ensures, back w64 c.signed_of.result c.signed_of.type_inv, c.signed_of.ensures) at c.if_raw.ensures)

pub returns-in-Two : goal.returns-in-Two
returns-in-Two c = arm c.args.w c.form.ensures c.in-Two.is c.two_of.ensures

pub returns-in-Slot : goal.returns-in-Slot
returns-in-Slot c = arm c.args.w c.form.ensures c.in-Slot.is c.slot_of.ensures

pub returns-in-Three : goal.returns-in-Three
returns-in-Three c = arm c.args.w c.form.ensures c.in-Three.is c.three_of.ensures

pub returns-in-Shift : goal.returns-in-Shift
returns-in-Shift c = arm c.args.w c.form.ensures c.in-Shift.is c.shift_of.ensures

pub returns-in-BitAndMask : goal.returns-in-BitAndMask
returns-in-BitAndMask c = arm c.args.w c.form.ensures c.in-BitAndMask.is c.bit_and_mask_of.ensures

pub returns-in-RshiftMask : goal.returns-in-RshiftMask
returns-in-RshiftMask c = arm c.args.w c.form.ensures c.in-RshiftMask.is c.rshift_mask_of.ensures

pub returns-in-Arith : goal.returns-in-Arith
returns-in-Arith c = arm c.args.w c.form.ensures c.in-Arith.is (rw (narrowed w16 c.signed_of-in-Arith.ensures (omega arith) (omega arith) (omega arith)) at c.if_whole-in-Arith.ensures)

pub returns-in-ClosNew : goal.returns-in-ClosNew
returns-in-ClosNew c = arm c.args.w c.form.ensures c.in-ClosNew.is c.clos_new_of.ensures

pub returns-in-ClosSet : goal.returns-in-ClosSet
returns-in-ClosSet c = arm c.args.w c.form.ensures c.in-ClosSet.is c.clos_set_of.ensures

pub returns-in-ClosGet : goal.returns-in-ClosGet
returns-in-ClosGet c = arm c.args.w c.form.ensures c.in-ClosGet.is c.clos_get_of.ensures

pub returns-in-One : goal.returns-in-One
returns-in-One c = arm c.args.w c.form.ensures c.in-One.is c.one_of.ensures

pub returns-in-Wide : goal.returns-in-Wide
returns-in-Wide c = arm c.args.w c.form.ensures c.in-Wide.is c.wide_of.ensures

pub returns-in-If : goal.returns-in-If
returns-in-If c = arm c.args.w c.form.ensures c.in-If.is (rw (narrowed w32 c.signed_of-in-If.ensures (omega arith) (omega arith) (omega arith)) at c.if_whole-in-If.ensures)

pub returns-in-Jump : goal.returns-in-Jump
returns-in-Jump c = arm c.args.w c.form.ensures c.in-Jump.is (rw (narrowed w32 c.signed_of-in-Jump.ensures (omega arith) (omega arith) (omega arith)) at c.if_whole-in-Jump.ensures)

pub returns-in-JumpImm : goal.returns-in-JumpImm
returns-in-JumpImm c = arm c.args.w c.form.ensures c.in-JumpImm.is (rw (narrowed w16 c.signed_of-in-JumpImm.ensures (omega arith) (omega arith) (omega arith), narrowed w32 c.signed_of-in-JumpImm-2.ensures (omega arith) (omega arith) (omega arith)) at c.if_whole-in-JumpImm.ensures)

pub returns-in-Jmp : goal.returns-in-Jmp
returns-in-Jmp c = arm c.args.w c.form.ensures c.in-Jmp.is (rw (narrowed w32 c.signed_of-in-Jmp.ensures (omega arith) (omega arith) (omega arith)) at c.if_whole-in-Jmp.ensures)

pub returns-in-Call : goal.returns-in-Call
returns-in-Call c = arm c.args.w c.form.ensures c.in-Call.is c.call_of.ensures

pub returns-in-CallHost : goal.returns-in-CallHost
returns-in-CallHost c = arm c.args.w c.form.ensures c.in-CallHost.is c.call_host_of.ensures

pub returns-in-ById : goal.returns-in-ById
returns-in-ById c = arm c.args.w c.form.ensures c.in-ById.is c.by_id_of.ensures

pub returns-in-CallMethodHost : goal.returns-in-CallMethodHost
returns-in-CallMethodHost c = arm c.args.w c.form.ensures c.in-CallMethodHost.is c.call_method_host_of.ensures

pub returns-in-RetImm40 : goal.returns-in-RetImm40
returns-in-RetImm40 c = arm c.args.w c.form.ensures c.in-RetImm40.is (rw (c.if_whole-in-RetImm40.ensures, back w64 c.signed_of-in-RetImm40.result c.signed_of-in-RetImm40.type_inv, c.signed_of-in-RetImm40.ensures) at c.if_raw-in-RetImm40.ensures)

pub returns-in-Unknown : goal.returns-in-Unknown
returns-in-Unknown c = arm c.args.w c.form.ensures c.in-Unknown.is (no-form _)
