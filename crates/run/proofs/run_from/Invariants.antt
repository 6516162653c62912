-- `run_from` meets its contract. The loop's invariant: what is left of the run from here gives the whole answer. The measure is what is left of the budget.
use mathlib.Core.Path.{◌≡◌}
use Prim.Native.Nat.{◌≤◌, ◌-◌}
use Rattle.value.specs.Refs.{SameSlices}
use Rattle.machine.specs.Run.{run_from}
use Rattle.run.proofs.run_from.Given as goal

abbrev pub invariant-loop-at : goal.invariant-loop-at
invariant-loop-at l =
    (l.steps ≤ l.budget)
    × SameSlices l.initial.registers l.registers
    × (run_from l.words l.slots.kinds.now l.slots.payloads.now (l.budget - l.steps) l.steps l.at l.registers.kinds.now l.registers.payloads.now
    ≡ run_from l.words l.slots.kinds.now l.slots.payloads.now l.budget 0 l.start l.initial.registers.kinds.now l.initial.registers.payloads.now)

abbrev pub decreases-loop-at : goal.decreases-loop-at
decreases-loop-at l = l.budget - l.steps
