-- `fold::literal_fold` meets its contract: by the kind of the operator.
use borrow.Author.Rules.{rules}
use Rattle.fold.proofs.FoldLaws.{folds}
use Rattle.fold.proofs.literal_fold.Goals as goal

pub returns-in-8 : goal.returns-in-8
returns-in-8 c = search (folds, rules)

pub returns-in-11 : goal.returns-in-11
returns-in-11 c = search (folds, rules)

pub returns-in-12 : goal.returns-in-12
returns-in-12 c = search (folds, rules)

pub returns-in-13 : goal.returns-in-13
returns-in-13 c = search (folds, rules)

pub returns-in-14 : goal.returns-in-14
returns-in-14 c = search (folds, rules)

pub returns-in-15 : goal.returns-in-15
returns-in-15 c = search (folds, rules)

pub returns-in_default : goal.returns-in_default
returns-in_default c = search (folds, rules)
