-- The first numbers are written.
use Rattle.std.proofs.Common.{take}
use Rattle.std.specs.Io.KnownBytes.{Appends}
use Rattle.replay_io.specs.Numbers.{number_bytes}
use Rattle.replay_io.proofs.write_words.Given as goal

abbrev pub invariant-loop-w : goal.invariant-loop-w
invariant-loop-w g l = Appends (g.W.Write.contents l.initial.output) (g.W.Write.contents l.output) (number_bytes (take l.w-index l.words))
