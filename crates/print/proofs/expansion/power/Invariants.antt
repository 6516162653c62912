-- `print::expansion::power` meets its contract. The invariant: it lies from 1 to 2^60. Assumes nothing.
use Prim.Native.Nat.{◌<◌, ◌≤◌, ◌-◌}
use Rattle.print.proofs.expansion.power.Given as goal

abbrev pub invariant-loop : goal.invariant-loop
invariant-loop l = (l.counter ≤ l.k) × (0 < l.p) × (l.p ≤ 1152921504606846976)

abbrev pub decreases-loop : goal.decreases-loop
decreases-loop l = l.k - l.counter
