-- The generator's register counter is that of `regs`.
use mathlib.Core.Path.{◌≡◌, refl}
use mathlib.Core.Bool.{Bool, true, false}
use Prim.Native.Nat.{ℕ, ◌+◌}
use native.Mathlib.Omega.{arith}
use lib.Dec.{ltb}
use borrow.Author.Tests.{ltb-true, ltb-false, lt-ltb, le-ltb}
use Rattle.faults.specs.Limits.{max_registers}
use Rattle.regs.specs.Counter.{fresh, allocated}
use Rattle.emit.specs.State.{State, alloc_d}
use Rattle.claim.specs.Registers.{counter_of, taken, SameCounter}

-- the one asks whether the register is below the limit, the other whether what follows it is past
allocates : (vars : ℕ) (s : State) → alloc_d s ≡ taken (allocated (counter_of vars s) 1).got (allocated (counter_of vars s) 1).regs s
unfolding alloc_d allocated
allocates vars s = go (ltb s.next max_registers) refl
  where
    go : (t : Bool) → ltb s.next max_registers ≡ t → alloc_d s ≡ taken (allocated (counter_of vars s) 1).got (allocated (counter_of vars s) 1).regs s
    go true e = rw (e, le-ltb max_registers (s.next + 1) (omega (arith, ltb-true s.next max_registers e))) refl
    go false e = rw (e, lt-ltb max_registers (s.next + 1) (omega (arith, ltb-false s.next max_registers e))) refl

pub same-counter : (vars : ℕ) (s : State) → SameCounter vars s
unfolding fresh
same-counter vars s = record { starts = λ cap slot_cap. refl; allocates = allocates vars s; releases = λ top. refl }
