-- `imm40` is the pattern of a raw immediate.
use borrow.Author.Rules.{rules}
use Rattle.operands.proofs.of_op.Laws.{pattern-64}
use Rattle.operands.proofs.of_op.imm40.Goals as goal

pub returns : goal.returns
returns c = search (pattern-64, rules)
