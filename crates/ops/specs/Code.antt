-- Plumbing: the operators as the code tells them apart. The operators' meaning does not use it.
use Rattle.value.specs.Value.{Datum}
use Rattle.value.specs.Answer.{Answer}
use Rattle.ops.specs.Arith.{as_floats, arith_of, whole_of}
use Rattle.ops.specs.declared.arith.How.{How}
use Rattle.ops.specs.declared.arith.How.TheVariants as H

unfoldable pub operate_of : How → Datum → Datum → Answer
operate_of (H.Either i f) x y = arith_of i f x y
operate_of (H.Floats f) x y = as_floats f x y
operate_of (H.Ints i) x y = whole_of i x y
