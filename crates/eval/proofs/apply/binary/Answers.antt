-- `binary` meets its contract: the first fault returns, and then the operator.
use Rattle.value.specs.Answer.{result_of}
use Rattle.eval.proofs.apply.Laws.{both_left, both_right, both-are, faulted}
use Rattle.eval.proofs.apply.binary.Goals as goal

pub returns-in_err-a : goal.returns-in_err-a
returns-in_err-a c = faulted c.from_residual.result (both_left c.args.k (result_of c.args.b) c.in_err-a.was) c.from_residual.ensures.1

pub returns-in_err-b : goal.returns-in_err-b
returns-in_err-b c = faulted c.from_residual-in_err-b.result (both_right c.args.k c.in_ok-a.was c.in_err-b.was) c.from_residual-in_err-b.ensures.1

pub returns : goal.returns
returns c = both-are c.args.k c.in_ok-a.was c.in_ok-b.was c.binary.ensures
