-- Not, by document 01, "Values": of a Bool, else 20; a fault stays what it is.
use Rattle.std.specs.Prelude.{not}
use Rattle.faults.specs.Numbers.{wrong_kind}
use Rattle.value.specs.Value.{Datum, nil, bool, int, float}
use Rattle.value.specs.Answer.{Answer, is, fault, truth}

unfoldable pub not_of : Datum → Answer
not_of nil = fault wrong_kind
not_of (bool b) = truth (not b)
not_of (int n) = fault wrong_kind
not_of (float p) = fault wrong_kind

unfoldable pub negate : Answer → Answer
negate (is v) = not_of v
negate (fault n) = fault n
