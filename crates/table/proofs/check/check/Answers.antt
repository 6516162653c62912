-- `check::check` meets its contract: a chain of calls, of which the first fault counts.
use Rattle.faults.proofs.Faults.{stopped, pass}
use Rattle.table.specs.Table.{check_of}
use Rattle.table.proofs.Whole.{base-fits, some-node}
use Rattle.table.proofs.check.check.Goals as goal

pub returns-in_err-shape_fault : goal.returns-in_err-shape_fault
unfolding check_of
returns-in_err-shape_fault c = stopped _ c.shape_fault.ensures c.in_err-shape_fault.was c.from_residual.ensures.1

pub returns-in_err-layout_fault : goal.returns-in_err-layout_fault
unfolding check_of
returns-in_err-layout_fault c =
    pass c.shape_fault.ensures c.in_ok-shape_fault.was
    (stopped _ c.layout_fault.ensures c.in_err-layout_fault.was c.from_residual-in_err-layout_fault.ensures.1)

pub overflow_add-base : goal.overflow_add-base
overflow_add-base c = base-fits _ _ c.layout_fault.ensures c.in_ok-layout_fault.was

pub returns-in_err-dest_fault : goal.returns-in_err-dest_fault
unfolding check_of
returns-in_err-dest_fault c =
    pass c.shape_fault.ensures c.in_ok-shape_fault.was
    (pass c.layout_fault.ensures c.in_ok-layout_fault.was
    (stopped _ c.dest_fault.ensures c.in_err-dest_fault.was c.from_residual-in_err-dest_fault.ensures.1))

pub returns-in_err-nodes_fault : goal.returns-in_err-nodes_fault
unfolding check_of
returns-in_err-nodes_fault c =
    pass c.shape_fault.ensures c.in_ok-shape_fault.was
    (pass c.layout_fault.ensures c.in_ok-layout_fault.was
    (pass c.dest_fault.ensures c.in_ok-dest_fault.was
    (stopped _ c.nodes_fault.ensures c.in_err-nodes_fault.was c.from_residual-in_err-nodes_fault.ensures.1)))

pub last_fault-requires : goal.last_fault-requires
last_fault-requires c = some-node _ c.shape_fault.ensures c.in_ok-shape_fault.was

pub returns : goal.returns
unfolding check_of
returns c =
    pass c.shape_fault.ensures c.in_ok-shape_fault.was
    (pass c.layout_fault.ensures c.in_ok-layout_fault.was
    (pass c.dest_fault.ensures c.in_ok-dest_fault.was (pass c.nodes_fault.ensures c.in_ok-nodes_fault.was c.last_fault.ensures)))
