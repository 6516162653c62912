-- `patch::aim_word` meets its contract: an opcode below or above the branches' is none.
use Rattle.decode.proofs.patch.Field.{opcodes}
use Rattle.decode.proofs.patch.aim_word.Goals as goal

pub returns-then-op-lt-IF_TRUE : goal.returns-then-op-lt-IF_TRUE
returns-then-op-lt-IF_TRUE c = search opcodes

pub returns-then-op-gt-JMP : goal.returns-then-op-gt-JMP
returns-then-op-gt-JMP c = search opcodes

pub returns : goal.returns
returns c = search opcodes
