-- `state::dest` meets its contract: by where the value goes.
use borrow.Author.Rules.{rules}
use Rattle.emit.proofs.Laws.{leaves}
use Rattle.emit.proofs.state.dest.Goals as goal

pub returns-in-Some : goal.returns-in-Some
returns-in-Some c = search (leaves, rules)

pub returns-in-None : goal.returns-in-None
returns-in-None c = search (leaves, rules)
