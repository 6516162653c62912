-- `print::expansion::doubled` meets its contract: it ends, and what is doubled fits. Assumes nothing.
use Prim.Native.Nat.{◌≤◌, ◌-◌}
use Rattle.print.proofs.expansion.doubled.Given as goal

abbrev pub invariant-loop : goal.invariant-loop
invariant-loop l = l.counter ≤ l.k

abbrev pub decreases-loop : goal.decreases-loop
decreases-loop l = l.k - l.counter
