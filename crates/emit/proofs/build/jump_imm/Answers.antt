-- `build::jump_imm` meets its contract: the literal above the register.
use Rattle.emit.proofs.build.Words.{words}
use Rattle.emit.proofs.build.jump_imm.Goals as goal

pub returns : goal.returns
returns c = search words
