-- `tested` meets its contract: by the truth.
use Rattle.eval.proofs.apply.Laws.{test-bool, test-wrong, faulted}
use Rattle.eval.proofs.apply.tested.Goals as goal

pub returns-in_err-test_of : goal.returns-in_err-test_of
returns-in_err-test_of c = faulted c.from_residual.result (test-wrong _ c.test_of.ensures c.in_err-test_of.was) c.from_residual.ensures.1

pub returns : goal.returns
returns c = test-bool _ c.test_of.ensures _ c.in_ok-test_of.was
