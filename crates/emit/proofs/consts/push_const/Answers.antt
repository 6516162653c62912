-- `consts::push_const` meets its contract: a slot that holds the constant, no slot, or a new one; then its word.
use borrow.Author.Rules.{rules}
use Rattle.emit.proofs.ConstLaws.{slots}
use Rattle.emit.proofs.consts.push_const.Goals as goal

pub returns-in-Some : goal.returns-in-Some
returns-in-Some c = search (slots, rules)

pub returns-then-kinds-n : goal.returns-then-kinds-n
returns-then-kinds-n c = search (slots, rules)

pub returns : goal.returns
returns c = search (slots, rules)
