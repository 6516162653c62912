-- What a test answers: nothing, or the fault that it finds.
use Rattle.std.specs.Prelude.{Bool, true, false, Result, Ok, Err}
use Rattle.faults.specs.declared.Fault.{Fault}

-- of a call that has no value
abbrev pub Checked : Type 0
Checked = Result (Unit {0}) Fault

-- no fault
abbrev pub none : Checked
none = Ok tt

-- f where the test holds, else none
unfoldable pub fault : Bool → Fault → Checked
fault true f = Err f
fault false f = none

-- the first fault of two
infixr 20 ◌or_else◌
unfoldable pub ◌or_else◌ : Checked → Checked → Checked
(Ok done) or_else m = m
(Err f) or_else m = Err f
