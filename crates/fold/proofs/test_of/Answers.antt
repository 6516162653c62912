-- `fold::test_of` meets its contract: by the kind.
use borrow.Author.Rules.{rules}
use Rattle.fold.proofs.TestLaws.{tests}
use Rattle.fold.proofs.test_of.Goals as goal

pub returns-then-k-lt-EQ : goal.returns-then-k-lt-EQ
returns-then-k-lt-EQ c = search (tests, rules)

pub returns-then-k-gt-GE : goal.returns-then-k-gt-GE
returns-then-k-gt-GE c = search (tests, rules)

pub compare_of-requires : goal.compare_of-requires
compare_of-requires c = search (tests, rules)
