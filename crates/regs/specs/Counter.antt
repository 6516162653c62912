-- The register counter: what each operation makes of it. A refusal leaves it as it was.
use Rattle.faults.specs.declared.Fault.{Fault}
use Rattle.std.specs.Prelude.{ℕ, ◌+◌, max, cond, ltb, Result, Ok, Err}
use Rattle.faults.specs.Faults.{Checked, none, fault}
use Rattle.faults.specs.Limits.{max_registers}
use Rattle.faults.specs.Numbers.{no_register}
use Rattle.table.specs.Table.{temp_base_of}
use Rattle.regs.specs.declared.Regs.{Regs}

-- what an allocation gave, and the counter after it
pub record Alloc (A : Type 0) : Type 0 where
  pub got : Result A Fault
  pub regs : Regs

-- why no register was given, if none was
abbrev pub refusal : Result ℕ Fault → Checked
refusal (Ok r) = none
refusal (Err f) = Err f

-- a run that ends past the last register is refused
unfoldable pub end_fault : ℕ → Checked
end_fault end = fault (ltb max_registers end) no_register

-- where a run ends, if that is not past the last register
abbrev pub end_at : ℕ → Result ℕ Fault
end_at end = cond (ltb max_registers end) (Err no_register) (Ok end)

-- a function with so many parameters and locals, before any temporary is taken
unfoldable pub fresh : ℕ → Regs
fresh vars = record { temp_base = temp_base_of vars; next = temp_base_of vars; max = temp_base_of vars }

-- next is the first free register from now on, and max the highest count reached
abbrev pub reached : Regs → ℕ → Regs
reached r next = record { temp_base = r.temp_base; next = next; max = max r.max next }

-- a run of n registers: the first of them
unfoldable pub allocated : Regs → ℕ → Alloc ℕ
allocated r n =
    cond (ltb max_registers (r.next + n))
    (record { got = Err no_register; regs = r })
    (record { got = Ok r.next; regs = reached r (r.next + n) })

-- every register from top on is free again
abbrev pub freed : Regs → ℕ → Regs
freed r top = record { temp_base = r.temp_base; next = top; max = r.max }

-- a run of n registers from start on, which is already handed out
unfoldable pub extended : Regs → ℕ → ℕ → Alloc (Unit {0})
extended r start n =
    cond (ltb max_registers (start + n))
    (record { got = Err no_register; regs = r })
    (record { got = none; regs = reached r (max r.next (start + n)) })
