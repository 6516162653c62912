-- What stands before the comment is read.
use Rattle.std.proofs.Common.{◌∙◌}
use Rattle.reader.specs.Line.{line_of}
use Rattle.reader.proofs.Lines.{before-comment}
use Rattle.reader.proofs.read.Goals as goal

pub returns : goal.returns
unfolding line_of
returns c = c.read_bare.ensures ∙ rw (before-comment c.args.s.now c.find-e.ensures.value)
