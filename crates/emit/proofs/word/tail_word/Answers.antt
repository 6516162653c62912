-- `word::tail_word` meets its contract: by the instruction.
use borrow.Author.Rules.{rules}
use Rattle.emit.proofs.Laws.{leaves}
use Rattle.emit.proofs.word.tail_word.Goals as goal

pub returns-in-Not : goal.returns-in-Not
returns-in-Not c = search (leaves, rules)

pub returns-in-Imm : goal.returns-in-Imm
returns-in-Imm c = search (leaves, rules)

pub returns-in-Shift : goal.returns-in-Shift
returns-in-Shift c = search (leaves, rules)

pub returns-in-Mask : goal.returns-in-Mask
returns-in-Mask c = search (leaves, rules)

pub returns-in-ShiftMask : goal.returns-in-ShiftMask
returns-in-ShiftMask c = search (leaves, rules)
