-- `jump::jump_one` meets its contract: the value is there.
use borrow.Author.Rules.{rules}
use Rattle.emit.proofs.jump.JumpLaws.{leaps}
use Rattle.emit.proofs.jump.jump_one.Goals as goal

pub returns : goal.returns
returns c = search (leaps, rules, c.in_ok-a.was)
