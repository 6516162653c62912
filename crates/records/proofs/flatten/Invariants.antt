-- The records below i are put.
use Rattle.std.proofs.Common.{◌≡◌, ◌*◌, ◌++◌, take, drop}
use Rattle.records.specs.Records.{flat}
use Rattle.records.proofs.flatten.Given as goal

abbrev pub invariant-loop-i : goal.invariant-loop-i
invariant-loop-i l = l.words ≡ flat (take l.i l.nodes) ++ drop (4 * l.i) l.initial.words
