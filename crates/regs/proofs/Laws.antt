-- Where a run ends, on each side of its test, and what that says of an allocation.
use Rattle.std.specs.Prelude.{Result, Ok, Err}
use Prim.Native.Nat.{ℕ, ◌+◌, max}
use mathlib.Core.Path.{◌≡◌, refl}
use mathlib.Core.Bool.{Bool, true, false, cond}
use lib.Dec.{ltb}
use Rattle.faults.specs.declared.Fault.{Fault}
use Rattle.faults.specs.Faults.{none, fault}
use Rattle.faults.specs.Limits.{max_registers}
use Rattle.faults.specs.Numbers.{no_register}
use Rattle.regs.specs.Counter.{Alloc, end_at, end_fault, reached, extended}
use Rattle.regs.specs.declared.Regs.{Regs}

module _ (end : ℕ) {x : Result ℕ Fault} (e : x ≡ end_at end) where
  pub past : {f : Fault} → x ≡ Err f → (ltb max_registers end ≡ true) × (f ≡ no_register)
  past {f} h = go (ltb max_registers end) (rw h at e)
    where
      go : (t : Bool) → Err f ≡ cond t (Err no_register) (Ok end) → (t ≡ true) × (f ≡ no_register)
      go true q = (refl, cc)
      go false q = absurd (cc)

  pub within : {k : ℕ} → x ≡ Ok k → (ltb max_registers end ≡ false) × (k ≡ end)
  within {k} h = go (ltb max_registers end) (rw h at e)
    where
      go : (t : Bool) → Ok k ≡ cond t (Err no_register) (Ok end) → (t ≡ false) × (k ≡ end)
      go true q = absurd (cc)
      go false q = (refl, cc)

-- an allocation from a register on is refused by where its run ends alone
pub from-number : (r : Regs) (start n : ℕ) → (extended r start n).got ≡ end_fault (start + n)
unfolding extended end_fault fault
from-number r start n = by_cases (ltb max_registers (start + n)) (record { got = Err no_register; regs = r }) (record { got = none; regs = reached r (max r.next (start + n)) }) refl refl
  where
    by_cases : (t : Bool) (a b : Alloc (Unit {0})) → a.got ≡ Err no_register → b.got ≡ none → (cond t a b).got ≡ fault t no_register
    by_cases true a b e e' = e
    by_cases false a b e e' = e'
