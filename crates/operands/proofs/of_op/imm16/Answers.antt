-- `imm16` is the pattern of a 16-bit literal.
use borrow.Author.Rules.{rules}
use Rattle.insns.proofs.bits.Sign.{widens}
use Rattle.operands.proofs.of_op.Laws.{pattern-of}
use Rattle.operands.proofs.of_op.imm16.Goals as goal

pub overflow_cast-imm : goal.overflow_cast-imm
overflow_cast-imm c = search (widens, rules)

pub returns : goal.returns
returns c = search (pattern-of, rules)
