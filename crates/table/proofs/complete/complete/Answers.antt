-- `complete::complete` meets its contract. The invariant: the nodes below i are complete.
use native.Mathlib.Omega.{arith}
use Rattle.table.proofs.complete.Laws.{passes, below_of, shallow-of, goes_on}
use Rattle.table.proofs.complete.complete.Goals as goal

pub loop-i-init : goal.loop-i-init
loop-i-init c = search passes

pub complete_node-requires-clause-below : goal.complete_node-requires-clause-below
complete_node-requires-clause-below c = below_of c.loop-i.invariant

pub complete_node-requires-clause-shallow : goal.complete_node-requires-clause-shallow
complete_node-requires-clause-shallow c = shallow-of c.loop-i.invariant (omega arith)

pub loop-i-preserved : goal.loop-i-preserved
loop-i-preserved c = let l = c.loop-i.auto.nodes in goes_on c.loop-i.invariant c.complete_node.ensures (omega arith)

pub returns : goal.returns
returns c = search passes
