-- `consts::load_slot` meets its contract: a slot past 32 bits, or the word.
use borrow.Author.Rules.{rules}
use Rattle.emit.proofs.ConstLaws.{slots}
use Rattle.emit.proofs.consts.load_slot.Goals as goal

pub returns-in_default : goal.returns-in_default
returns-in_default c = search (slots, rules)
