-- One digit is read.
use Rattle.std.proofs.Common.{refl}
use Rattle.text.proofs.numeral.Reading.{read_more}
use Rattle.text.proofs.numeral.digits_after.Goals as goal

pub loop-b-preserved : goal.loop-b-preserved
loop-b-preserved c = read_more c.args.base c.loop-b.so_far c.args.s.now c.loop-b.b-index _ c.loop-b.invariant c.loop-b-test.true refl c.more.ensures c.in_ok-so_far.was
