-- `unary` meets its contract: a fault returns, and then the operator of the kind.
use Rattle.eval.proofs.apply.Laws.{unary-fault, unary-minus, unary-not, faulted}
use Rattle.eval.proofs.apply.unary.Goals as goal

pub returns-in_err-x : goal.returns-in_err-x
returns-in_err-x c = faulted c.from_residual.result (unary-fault _ c.in_err-x.was) c.from_residual.ensures.1

pub returns-then-k-eq-MINUS : goal.returns-then-k-eq-MINUS
returns-then-k-eq-MINUS c = unary-minus _ c.in_ok-x.was c.if-k-eq-MINUS.true c.binary.ensures

pub returns : goal.returns
returns c = unary-not _ c.in_ok-x.was c.if-k-eq-MINUS.false c.not.ensures
