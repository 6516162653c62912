-- `decimal::wide` meets its contract. The invariant: the digits kept and one more enclose the whole part.
use Rattle.text.proofs.decimal.Settling.{Halving}
use Rattle.text.proofs.decimal.wide.Given as goal

abbrev pub invariant-loop-m : goal.invariant-loop-m
invariant-loop-m l = Halving l.whole l.m l.p l.e

abbrev pub decreases-loop-m : goal.decreases-loop-m
decreases-loop-m l = l.m
