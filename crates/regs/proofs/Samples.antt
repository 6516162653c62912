-- Sample counters, computed from the definitions alone.
use Rattle.std.specs.Prelude.{Ok, Err}
use mathlib.Core.Path.{◌≡◌, refl}
use Prim.Native.Nat.{ℕ}
use Rattle.faults.specs.Faults.{none}
use Rattle.faults.specs.Numbers.{no_register}
use Rattle.table.specs.Table.{temp_base_of}
use Rattle.regs.specs.Counter.{fresh, allocated, extended}
use Rattle.regs.specs.declared.Regs.{Regs}

abbrev counter : ℕ → ℕ → ℕ → Regs
counter base next max = record { temp_base = base; next = next; max = max }

-- document 01's case 11, one register for Nil: with base 65,534 the frame is 65,535, and with base 65,535 it is refused, with the counter as it was
nil : (allocated (fresh 65534) 1 ≡ record { got = Ok 65534; regs = counter 65534 65535 65535 }) × (allocated (fresh 65535) 1 ≡ record { got = Err no_register; regs = fresh 65535 })
unfolding fresh temp_base_of allocated
nil = (refl, refl)

-- no variables: the first temporary is register 1
first : allocated (fresh 0) 1 ≡ record { got = Ok 1; regs = counter 1 2 2 }
unfolding fresh temp_base_of allocated
first = refl

-- a run from a register that is handed out takes only what lies above; past the limit it takes nothing
runs : (extended (counter 1 3 3) 2 4 ≡ record { got = none; regs = counter 1 6 6 }) × (extended (counter 1 3 7) 1 1 ≡ record { got = none; regs = counter 1 3 7 }) × (extended (counter 1 3 7) 65535 1 ≡ record { got = Err no_register; regs = counter 1 3 7 })
unfolding extended
runs = (refl, refl, refl)
