-- `check::nodes_fault` meets its contract. The invariant: the nodes passed have no fault, and the last of them has the first and the depth that are kept.
use Rattle.std.specs.Prelude.{Ok}
use mathlib.Core.Path.{◌≡◌}
use Prim.Native.Nat.{◌≤◌}
use Rattle.table.specs.Table.{nodes_fault, node_count}
use Rattle.table.specs.Nodes.{Last}
use Rattle.table.proofs.check.nodes_fault.Given as goal

abbrev pub invariant-loop-i : goal.invariant-loop-i
invariant-loop-i l = (l.i ≤ node_count l.nodes) × (nodes_fault l.nodes l.base l.i ≡ Ok tt) × Last l.nodes l.i l.e l.g
