-- `times_fits` meets its contract: small factors have a small product, and otherwise the quotient tells.
use Rattle.int64.proofs.exact.Laws.{small-factors, no-factor, by-quotient, by-quotient'}
use Rattle.std.proofs.Common.{rules}
use Rattle.int64.proofs.exact.times_fits.Goals as goal

pub returns-then-y-lt2147483648 : goal.returns-then-y-lt2147483648
returns-then-y-lt2147483648 c = search (small-factors, rules)

pub returns-then-y-eq0 : goal.returns-then-y-eq0
returns-then-y-eq0 c = search (no-factor, rules)

pub returns-then-neg : goal.returns-then-neg
returns-then-neg c = search (by-quotient', rules)

pub returns : goal.returns
returns c = search (by-quotient, rules)
