-- `value::payload_of` meets its contract: by the variant that an arm knows.
use Rattle.std.proofs.Common.{rules, w64, SFits}
use mir.ValLaws.{to_z-of_z}
use Rattle.value.proofs.payload_of.Goals as goal

pub returns-in-Int : goal.returns-in-Int
returns-in-Int c = let f : SFits w64 c.in-Int.n = search rules in cc (to_z-of_z w64 c.in-Int.n f)
