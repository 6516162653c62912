-- The generator's register counter is that of `regs`, the port of the Rust's `Regs`: its next free register and its frame.
use Rattle.faults.specs.declared.Fault.{Fault}
use Rattle.std.specs.Prelude.{◌≡◌, ℕ, Result, Ok, Err}
use Rattle.table.specs.Table.{temp_base_of}
use Rattle.regs.specs.Counter.{fresh, allocated, freed}
use Rattle.regs.specs.declared.Regs.{Regs}
use Rattle.emit.specs.State.{Res, done, fail, State, alloc_d, release}
use Rattle.compile.specs.Compile.{start}

-- the counter of a generator's state, for so many parameters and locals; and the state with another counter
abbrev pub counter_of : ℕ → State → Regs
counter_of vars s = record { temp_base = temp_base_of vars; next = s.next; max = s.frame }

abbrev pub with_counter : Regs → State → State
with_counter c s = record { words = s.words; cap = s.cap; slots = s.slots; slot_cap = s.slot_cap; next = c.next; frame = c.max }

-- a register and the counter after it; or the refusal
abbrev pub taken : Result ℕ Fault → Regs → State → Res (ℕ × State)
taken (Ok r) c s = done (r, with_counter c s)
taken (Err f) c s = fail f

pub record SameCounter (vars : ℕ) (s : State) : Type 0 where
  pub starts : (cap slot_cap : ℕ) → counter_of vars (start cap slot_cap (temp_base_of vars)) ≡ fresh vars
  pub allocates : alloc_d s ≡ taken (allocated (counter_of vars s) 1).got (allocated (counter_of vars s) 1).regs s
  pub releases : (top : ℕ) → counter_of vars (release top s) ≡ freed (counter_of vars s) top
