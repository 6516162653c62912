-- The invariant: what is left to cover gives the answer.
use mathlib.Core.Path.{◌≡◌}
use Prim.Native.Nat.{◌≤◌, ◌-◌}
use Rattle.table.specs.Table.{children}
use Rattle.table.proofs.children.children_of.Given as goal

abbrev pub invariant-loop : goal.invariant-loop
invariant-loop l = (children l.nodes (l.n - l.counter) l.e l.d ≡ children l.nodes l.n l.i 0) × (l.e ≤ l.i)
