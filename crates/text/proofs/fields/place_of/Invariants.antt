-- The place among the words that are left, counted on, is the place among all.
use Rattle.std.proofs.Common.{◌≡◌, ◌+◌, ◌≤◌, length}
use Rattle.text.specs.Fields.{fields_of, place_from}
use Rattle.text.proofs.fields.place_of.Given as goal

abbrev pub invariant-loop-word : goal.invariant-loop-word
invariant-loop-word l = (place_from l.n l.s (fields_of l.rest) ≡ place_from 0 l.s (fields_of l.table)) × (l.n + length l.rest ≤ length l.table)

abbrev pub decreases-loop-word : goal.decreases-loop-word
decreases-loop-word l = length l.rest
