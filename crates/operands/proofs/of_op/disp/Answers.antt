-- `disp` is the pattern of a displacement.
use borrow.Author.Rules.{rules}
use Rattle.insns.proofs.bits.Sign.{widens}
use Rattle.operands.proofs.of_op.Laws.{pattern-of}
use Rattle.operands.proofs.of_op.disp.Goals as goal

pub overflow_cast-disp : goal.overflow_cast-disp
overflow_cast-disp c = search (widens, rules)

pub returns : goal.returns
returns c = search (pattern-of, rules)
