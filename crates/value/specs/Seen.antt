-- Plumbing: how the code sees the operands of an operator: as numbers by their patterns, anything else as None. What the operators mean does not use it.
use Rattle.std.specs.Prelude.{Option, Some, None}
use Rattle.std.specs.Int.{w64}
use Rattle.std.proofs.Common.{to_z}
use Rattle.value.specs.Value.{Datum, nil, bool, int, float}
use Rattle.value.specs.declared.answer.Number.{Number}
use Rattle.value.specs.declared.answer.Number.TheVariants as N

unfoldable pub as_number : Datum → Datum
as_number nil = nil
as_number (bool b) = nil
as_number (int n) = int n
as_number (float p) = float p

abbrev pub number : Number → Datum
number (N.Int p) = int (to_z w64 p)
number (N.Float p) = float p

abbrev pub shown : Option Number → Datum
shown (Some a) = number a
shown None = nil
