-- `jump::slide` meets its contract: the jumps that were moved stand in front, and those to come are as they were.
use mathlib.Core.Path.{◌≡◌}
use Prim.Native.Nat.{◌+◌}
use lib.ListN.{length, take, drop}
use Rattle.emit.proofs.jump.slide.Given as goal

abbrev pub invariant-loop-j : goal.invariant-loop-j
invariant-loop-j l = (length l.jumps ≡ length l.initial.jumps) × (take l.j l.jumps ≡ take l.j (drop l.n l.initial.jumps)) × (drop (l.n + l.j) l.jumps ≡ drop (l.n + l.j) l.initial.jumps)
