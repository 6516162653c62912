-- What the code sees of a value is whether it is a number.
use mathlib.Core.Path.{◌≡◌, refl, sym}
use mathlib.Core.Bool.{true}
use Rattle.int64.proofs.sign.Laws.{never}
use Rattle.value.specs.Value.{Datum, nil, bool, int, float}
use Rattle.value.specs.Answer.{is_number}
use Rattle.value.specs.Seen.{as_number}

pub number_is : (x : Datum) → is_number x ≡ true → as_number x ≡ x
unfolding is_number as_number
number_is nil e = never (sym e)
number_is (bool b) e = never (sym e)
number_is (int n) e = refl
number_is (float p) e = refl
