-- The first numbers are written.
use Rattle.std.proofs.Common.{take}
use Rattle.std.specs.Io.KnownBytes.{Appends}
use Rattle.replay_io.specs.Numbers.{number_bytes}
use Rattle.replay_io.proofs.write_bytes.Given as goal

abbrev pub invariant-loop-b : goal.invariant-loop-b
invariant-loop-b g l = Appends (g.W.Write.contents l.initial.output) (g.W.Write.contents l.output) (number_bytes (take l.b-index l.bytes))
