-- `patch::aim_branch` meets its contract: each opcode's field, and what may stand above it.
use Rattle.decode.proofs.patch.Field.{opcodes}
use Rattle.decode.proofs.patch.aim_branch.Goals as goal

pub returns-then-w-lt-SIZE_32 : goal.returns-then-w-lt-SIZE_32
returns-then-w-lt-SIZE_32 c = search opcodes

pub returns-then-op-le-IF_FALSE : goal.returns-then-op-le-IF_FALSE
returns-then-op-le-IF_FALSE c = search opcodes

pub returns-then-op-le-JNGE_IMM16 : goal.returns-then-op-le-JNGE_IMM16
returns-then-op-le-JNGE_IMM16 c = search opcodes

pub returns-then-w-lt-SIZE_32-2 : goal.returns-then-w-lt-SIZE_32-2
returns-then-w-lt-SIZE_32-2 c = search opcodes

pub returns : goal.returns
returns c = search opcodes
