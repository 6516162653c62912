-- `wide_stands` meets its contract: by the place of the Float among the Ints.
use Rattle.float.proofs.standing.Laws.{standings}
use borrow.Author.Rules.{rules}
use Rattle.float.proofs.standing.wide_stands.Goals as goal

pub returns-in-None : goal.returns-in-None
returns-in-None c = search (standings, rules)

pub returns-in-Some : goal.returns-in-Some
returns-in-Some c = search (standings, rules)
