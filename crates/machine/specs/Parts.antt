-- Plumbing: what the parts of `step` that write nothing answer.
use Rattle.std.specs.Prelude.{ℕ, Result, Ok, Err}
use Rattle.faults.specs.declared.Fault.{Fault}
use Rattle.machine.specs.Step.{Next, go, put, stop}

abbrev pub told_of : Next → Result ℕ Fault
told_of (go p) = Ok p
told_of (put p d v) = Ok p
told_of (stop n) = Err n
