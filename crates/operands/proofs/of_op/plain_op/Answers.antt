-- `plain_op` meets its contract: each arm knows the instruction, and hands on its opcode and operands.
use Rattle.operands.proofs.of_op.Laws.{plain_at}
use Rattle.operands.proofs.of_op.plain_op.Goals as goal

pub returns-in-Bare : goal.returns-in-Bare
returns-in-Bare c = plain_at c.in-Bare.is (rw c.bare_op.ensures at c.plain.ensures)

pub returns-in-LoadImm40 : goal.returns-in-LoadImm40
returns-in-LoadImm40 c = plain_at c.in-LoadImm40.is (rw c.imm40.ensures at c.plain-in-LoadImm40.ensures)

pub returns-in-Two : goal.returns-in-Two
returns-in-Two c = plain_at c.in-Two.is (rw c.two_op.ensures at c.plain-in-Two.ensures)

pub returns-in-Slot : goal.returns-in-Slot
returns-in-Slot c = plain_at c.in-Slot.is (rw c.slot_op.ensures at c.plain-in-Slot.ensures)

pub returns-in-Three : goal.returns-in-Three
returns-in-Three c = plain_at c.in-Three.is (rw c.three_op.ensures at c.plain-in-Three.ensures)

pub returns-in-Shift : goal.returns-in-Shift
returns-in-Shift c = plain_at c.in-Shift.is (rw c.shift_op.ensures at c.plain-in-Shift.ensures)

pub returns-in-BitAndMask : goal.returns-in-BitAndMask
returns-in-BitAndMask c = plain_at c.in-BitAndMask.is c.plain-in-BitAndMask.ensures

pub returns-in-RshiftMask : goal.returns-in-RshiftMask
returns-in-RshiftMask c = plain_at c.in-RshiftMask.is c.plain-in-RshiftMask.ensures

pub returns-in-Arith : goal.returns-in-Arith
returns-in-Arith c = plain_at c.in-Arith.is (rw (c.arith_op.ensures, c.imm16.ensures) at c.plain-in-Arith.ensures)

pub returns-in-ClosNew : goal.returns-in-ClosNew
returns-in-ClosNew c = plain_at c.in-ClosNew.is c.plain-in-ClosNew.ensures

pub returns-in-ClosSet : goal.returns-in-ClosSet
returns-in-ClosSet c = plain_at c.in-ClosSet.is c.plain-in-ClosSet.ensures

pub returns-in-ClosGet : goal.returns-in-ClosGet
returns-in-ClosGet c = plain_at c.in-ClosGet.is c.plain-in-ClosGet.ensures

pub returns-in-One : goal.returns-in-One
returns-in-One c = plain_at c.in-One.is (rw c.one_op.ensures at c.plain-in-One.ensures)

pub returns-in-Wide : goal.returns-in-Wide
returns-in-Wide c = plain_at c.in-Wide.is (rw c.wide_op.ensures at c.plain-in-Wide.ensures)

pub returns-in-If : goal.returns-in-If
returns-in-If c = plain_at c.in-If.is (rw (c.if_op.ensures, c.disp.ensures) at c.plain-in-If.ensures)

pub returns-in-Jump : goal.returns-in-Jump
returns-in-Jump c = plain_at c.in-Jump.is (rw (c.jump_op.ensures, c.disp-in-Jump.ensures) at c.plain-in-Jump.ensures)

pub returns-in-JumpImm : goal.returns-in-JumpImm
returns-in-JumpImm c = plain_at c.in-JumpImm.is (rw (c.jump_imm_op.ensures, c.imm16-in-JumpImm.ensures, c.disp-in-JumpImm.ensures) at c.plain-in-JumpImm.ensures)

pub returns-in-Jmp : goal.returns-in-Jmp
returns-in-Jmp c = plain_at c.in-Jmp.is (rw c.disp-in-Jmp.ensures at c.plain-in-Jmp.ensures)

pub returns-in-Call : goal.returns-in-Call
returns-in-Call c = plain_at c.in-Call.is (rw c.call_op.ensures at c.plain-in-Call.ensures)

pub returns-in-CallHost : goal.returns-in-CallHost
returns-in-CallHost c = plain_at c.in-CallHost.is c.plain-in-CallHost.ensures

pub returns-in-ById : goal.returns-in-ById
returns-in-ById c = plain_at c.in-ById.is (rw c.by_id_op.ensures at c.plain-in-ById.ensures)

pub returns-in-CallMethodHost : goal.returns-in-CallMethodHost
returns-in-CallMethodHost c = plain_at c.in-CallMethodHost.is c.plain-in-CallMethodHost.ensures

pub returns-in-RetImm40 : goal.returns-in-RetImm40
returns-in-RetImm40 c = plain_at c.in-RetImm40.is (rw c.imm40-in-RetImm40.ensures at c.plain-in-RetImm40.ensures)
