-- `fold::operand_of` meets its contract: the one, the left one, or that of the shift.
use borrow.Author.Rules.{rules}
use Rattle.fold.proofs.FoldLaws.{asks, operands}
use Rattle.fold.proofs.operand_of.Goals as goal

pub returns-then-kind_at-le-NOT : goal.returns-then-kind_at-le-NOT
returns-then-kind_at-le-NOT c = search (asks, operands, rules)

pub child_2-a-requires : goal.child_2-a-requires
child_2-a-requires c = search (asks, operands, rules)

pub child_2-requires : goal.child_2-requires
child_2-requires c = search (asks, operands, rules)

pub returns-then-takes_shift : goal.returns-then-takes_shift
returns-then-takes_shift c = search (asks, operands, rules)

pub returns : goal.returns
returns c = search (asks, operands, rules)
