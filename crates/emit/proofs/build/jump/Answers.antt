-- `build::jump` meets its contract: the two registers.
use Rattle.emit.proofs.build.Words.{words}
use Rattle.emit.proofs.build.jump.Goals as goal

pub returns : goal.returns
returns c = search words
