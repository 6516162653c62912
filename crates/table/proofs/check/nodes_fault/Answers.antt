-- `check::nodes_fault` meets its contract. The invariant: the nodes passed have no fault, and the last of them has the first and the depth that are kept.
use mathlib.Core.Path.{refl}
use native.Mathlib.Omega.{arith}
use borrow.Author.Rules.{rules}
use Rattle.table.specs.Table.{nodes_fault}
use Rattle.table.proofs.Nodes.{passes, some-fault}
use Rattle.table.proofs.Rights.{loops, last-zero}
use Rattle.table.proofs.check.nodes_fault.Goals as goal

ruleset laws = (passes, loops, rules)

pub loop-i-init : goal.loop-i-init
unfolding nodes_fault
loop-i-init c = (omega arith, refl, last-zero _)

pub returns-in_err-node_fault : goal.returns-in_err-node_fault
returns-in_err-node_fault c =
    some-fault _ _ _ c.loop-i.invariant.1 c.loop-i-test.true c.node_fault.ensures c.in_err-node_fault.was c.from_residual.ensures.1

pub loop-i-preserved : goal.loop-i-preserved
unfolding nodes_fault
loop-i-preserved c = (omega arith, search laws, search laws)
