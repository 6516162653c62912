-- `finish` leaves the words, the constants, and zeros after them.
use Rattle.compile.proofs.buffers.Ends.{finished}
use Rattle.compile.proofs.buffers.finish.Goals as goal

pub returns : goal.returns
returns c = finished c.requires c.fill.ensures.after c.fill-2.ensures.after c.fill-3.ensures.after c.args.r
