-- `build::test` meets its contract: one register, with either opcode.
use Rattle.emit.proofs.build.Words.{words}
use Rattle.emit.proofs.build.test.Goals as goal

pub returns-then-sense : goal.returns-then-sense
returns-then-sense c = search words

pub returns : goal.returns
returns c = search words
