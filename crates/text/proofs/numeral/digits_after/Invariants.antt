-- What is left to read gives the answer.
use Rattle.std.proofs.Common.{◌≡◌, drop, Ok}
use Rattle.text.specs.Numeral.{read_on}
use Rattle.text.proofs.numeral.digits_after.Given as goal

abbrev pub invariant-loop-b : goal.invariant-loop-b
invariant-loop-b l = read_on l.base (Ok l.so_far) (drop l.b-index l.s) ≡ read_on l.base (Ok l.n) l.s
