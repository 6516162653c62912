-- `jump::how_word` meets its contract: by what is tested.
use borrow.Author.Rules.{rules}
use Rattle.emit.proofs.jump.JumpLaws.{leaps}
use Rattle.emit.proofs.jump.how_word.Goals as goal

pub returns-in-Bool : goal.returns-in-Bool
returns-in-Bool c = search (leaps, rules)

pub returns-in-Imm : goal.returns-in-Imm
returns-in-Imm c = search (leaps, rules)
