-- The fields that were counted and those that are left are all fields.
use Rattle.std.proofs.Common.{◌≡◌, ◌+◌, ◌≤◌, length}
use Rattle.text.specs.Fields.{fields_of}
use Rattle.text.proofs.fields.count.Given as goal

abbrev pub invariant-loop-after : goal.invariant-loop-after
invariant-loop-after l = (l.n + length (fields_of l.rest) ≡ length (fields_of l.s)) × (l.n + length l.rest ≤ length l.s)

abbrev pub decreases-loop-after : goal.decreases-loop-after
decreases-loop-after l = length l.rest
