-- What is left is below the divisor.
use Rattle.std.proofs.Common.{◌<◌}
use Rattle.print.proofs.expansion.say_fraction.Given as goal

abbrev pub invariant-loop : goal.invariant-loop
invariant-loop g l = l.r < l.p
