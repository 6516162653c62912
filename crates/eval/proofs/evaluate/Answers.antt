-- `eval::evaluate` meets its contract: a chain of tests, and what `eval_node` asks of its table is that the check found no fault.
use Rattle.eval.proofs.apply.Laws.{faulted}
use Rattle.eval.proofs.Entry.{table-refused, base-fits, last-node, too_few, ill-formed, root, lends, evaluated}
use Rattle.eval.proofs.evaluate.Goals as goal

pub returns-in_err-check : goal.returns-in_err-check
returns-in_err-check c = faulted c.from_residual.result (table-refused _ _ _ c.check.ensures _ _ c.in_err-check.was) c.from_residual.ensures.1

pub overflow_add-base : goal.overflow_add-base
overflow_add-base c = base-fits _ _ _ c.check.ensures c.in_ok-check.was

pub returns-then-len-base : goal.returns-then-len-base
returns-then-len-base c = too_few _ _ _ c.check.ensures c.in_ok-check.was _ _ c.len.ensures c.if-len-base.true

pub overflow_sub-nodes : goal.overflow_sub-nodes
overflow_sub-nodes c = last-node _ _ _ c.check.ensures c.in_ok-check.was

pub eval_node-requires : goal.eval_node-requires
eval_node-requires c =
    record {
      node = root _ _ _ c.check.ensures c.in_ok-check.was _ _ c.len.ensures c.if-len-base.false c.all_well.ensures c.if-all_well.true;
      lends = lends _ _ _ c.check.ensures c.in_ok-check.was _ _ c.len.ensures c.if-len-base.false c.all_well.ensures c.if-all_well.true;
    }

pub returns-then-all_well : goal.returns-then-all_well
returns-then-all_well c =
    evaluated _ _ _ c.check.ensures c.in_ok-check.was _ _ c.len.ensures c.if-len-base.false c.all_well.ensures c.if-all_well.true c.eval_node.ensures

pub returns : goal.returns
returns c =
    ill-formed _ _ _ c.check.ensures c.in_ok-check.was _ _ c.len.ensures c.if-len-base.false c.all_well.ensures c.if-all_well.false
