-- `check::full_fault` meets its contract: a chain of calls, of which the first fault counts.
use Rattle.table.proofs.Nodes.{kind-stops, span-stops, limit-stops}
use Rattle.table.proofs.check.full_fault.Goals as goal

pub returns-in_err-kind_fault : goal.returns-in_err-kind_fault
returns-in_err-kind_fault c =
    kind-stops _ _ _ c.kind_at-k.ensures c.payload_at-p.ensures c.kind_fault.ensures c.in_err-kind_fault.was c.from_residual.ensures.1

pub returns-in_err-span_fault : goal.returns-in_err-span_fault
returns-in_err-span_fault c =
    span-stops _ _ _ c.kind_at-k.ensures c.payload_at-p.ensures c.kind_fault.ensures c.in_ok-kind_fault.was c.arity_of.ensures c.children_of.ensures
    c.first_at.ensures c.depth_at-d.ensures c.span_fault.ensures c.in_err-span_fault.was c.from_residual-in_err-span_fault.ensures.1

pub returns : goal.returns
returns c =
    limit-stops _ _ _ c.kind_at-k.ensures c.payload_at-p.ensures c.kind_fault.ensures c.in_ok-kind_fault.was c.arity_of.ensures c.children_of.ensures
    c.first_at.ensures c.depth_at-d.ensures c.span_fault.ensures c.in_ok-span_fault.was c.limit_fault.ensures
