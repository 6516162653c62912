-- `why::first_at_fault` meets its contract. The invariant: the position lies within the text.
use Prim.Native.Nat.{◌≤◌, ◌-◌}
use lib.ListN.{length}
use Rattle.reader.proofs.why.first_at_fault.Given as goal

abbrev pub invariant-loop-t : goal.invariant-loop-t
invariant-loop-t l = (l.t.at ≤ length l.s) × (l.t.node ≤ 4097)

abbrev pub decreases-loop-t : goal.decreases-loop-t
decreases-loop-t l = length l.s - l.t.at
