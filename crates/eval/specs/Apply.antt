-- The operators on answers, by document 01: left before right, and the first fault counts.
use Rattle.std.specs.Prelude.{true, false, cond}
use Rattle.faults.specs.Numbers.{wrong_kind}
use Rattle.value.specs.Value.{Datum, nil, bool, int, float}
use Rattle.value.specs.Answer.{Answer, is, fault}

unfoldable pub on : (Datum → Answer) → Answer → Answer
on f (is x) = f x
on f (fault n) = fault n

unfoldable pub both : (Datum → Datum → Answer) → Answer → Answer → Answer
both f (is x) b = on (f x) b
both f (fault n) b = fault n

-- a test wants a Bool, and only the answer that it chooses is looked at
unfoldable pub whether : Answer → Answer → Answer → Answer
whether (is nil) b c = fault wrong_kind
whether (is (bool t)) b c = cond t b c
whether (is (int z)) b c = fault wrong_kind
whether (is (float p)) b c = fault wrong_kind
whether (fault n) b c = fault n

unfoldable pub test : Answer → Answer
test a = whether a (is (bool true)) (is (bool false))
