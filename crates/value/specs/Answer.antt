-- What an operator answers, by document 01, "Values": a value, or a fault.
use Rattle.value.specs.declared.Value.{Value}
use Rattle.faults.specs.declared.Fault.{Fault}
use Rattle.std.specs.Prelude.{Bool, true, false, Result, Ok, Err}
use Rattle.value.specs.Value.{Datum, nil, bool, int, float, meaning}

pub data Answer : Type 0 where
  is : Datum → Answer
  fault : Fault → Answer

-- what the code answers
abbrev pub result_of : Result Value Fault → Answer
result_of (Ok v) = is (meaning v)
result_of (Err n) = fault n

abbrev pub truth : Bool → Answer
truth b = is (bool b)

unfoldable pub is_number : Datum → Bool
is_number nil = false
is_number (bool b) = false
is_number (int n) = true
is_number (float p) = true
