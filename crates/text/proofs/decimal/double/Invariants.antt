-- The digits from i on are doubled, with what is carried out of them, and those before are as they were.
use Rattle.text.proofs.decimal.Digits.{Doubling}
use Rattle.text.proofs.decimal.double.Given as goal

abbrev pub invariant-loop-i : goal.invariant-loop-i
invariant-loop-i l = Doubling l.initial.f l.f l.carry l.i
