-- `fields::make` meets its contract: the fields from i on decide as all do; then what is packed is those from i on.
use mathlib.Core.Path.{◌≡◌}
use lib.ListN.{drop}
use Rattle.insns.specs.Fields.{pack, all_fit}
use Rattle.insns.proofs.fields.make.Given as goal

abbrev pub invariant-loop-i : goal.invariant-loop-i
invariant-loop-i l = all_fit (drop l.i l.fields) ≡ all_fit l.fields

abbrev pub invariant-loop-i-2 : goal.invariant-loop-i-2
invariant-loop-i-2 l = l.above ≡ pack (drop l.i l.fields)
