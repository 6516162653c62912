-- `build::jmp` meets its contract: the opcode alone.
use Rattle.emit.proofs.build.Words.{words}
use Rattle.emit.proofs.build.jmp.Goals as goal

pub returns : goal.returns
returns c = search words
