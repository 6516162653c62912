-- The loop of `all_well`: what is left of the pairs decides as the whole does.
use Rattle.std.proofs.Common.{◌≡◌}
use Rattle.value.proofs.PairLaws.{from}
use Rattle.value.proofs.pairs.Pairs.all_well.Given as goal

abbrev pub invariant-loop-i : goal.invariant-loop-i
invariant-loop-i l = from l.self.kinds.now l.self.payloads.now l.i ≡ from l.self.kinds.now l.self.payloads.now 0
