-- `stands` meets its contract: an Int that is a Float is compared as that Float, any other by `wide_stands`.
use Rattle.float.proofs.standing.Laws.{standings}
use borrow.Author.Rules.{rules}
use Rattle.float.proofs.standing.stands.Goals as goal

pub wide_stands-requires : goal.wide_stands-requires
wide_stands-requires c = search (standings, rules)

pub returns-in-Some : goal.returns-in-Some
returns-in-Some c = search (standings, rules)
