-- `listed` ends, since the list grows at each call.
use Prim.Native.Nat.{◌-◌}
use Rattle.compile.proofs.+listed.Given as goal

abbrev pub decreases-listed : goal.decreases-listed
decreases-listed l = 32768 - l.most
