-- `place_of` meets its contract: the same three cases, by the same tests.
use Rattle.float.proofs.standing.Laws.{standings}
use borrow.Author.Rules.{rules}
use Rattle.float.proofs.standing.place_of.Goals as goal

pub returns-then-is_far : goal.returns-then-is_far
returns-then-is_far c = search (standings, rules)

pub returns-then-r-lt-TWO_52 : goal.returns-then-r-lt-TWO_52
returns-then-r-lt-TWO_52 c = search (standings, rules)

pub whole_part-requires : goal.whole_part-requires
whole_part-requires c = (search rules, search (standings, rules))

pub returns : goal.returns
returns c = search (standings, rules)
