-- The fields that are left are those after so many of all, and what is left of the line is its end.
use Rattle.std.proofs.Common.{◌≡◌, ◌-◌, ◌≤◌, length, drop}
use Rattle.text.specs.Fields.{fields_of}
use Rattle.text.proofs.fields.nth_part.Given as goal

abbrev pub invariant-loop : goal.invariant-loop
invariant-loop l = (drop l.counter (fields_of l.s) ≡ fields_of l.rest) × (l.rest ≡ drop (length l.s - length l.rest) l.s) × (length l.rest ≤ length l.s)
