-- `jump::jump_pair` meets its contract: the values are there.
use borrow.Author.Rules.{rules}
use Rattle.emit.proofs.jump.JumpLaws.{leaps}
use Rattle.emit.proofs.jump.jump_pair.Goals as goal

pub returns : goal.returns
returns c = search (leaps, rules, c.in_ok-b.was)
