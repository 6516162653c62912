-- `listed`: a list for `most` nodes is long enough for a table of no more.
use Rattle.compile.proofs.Entries.{few-enough}
use Rattle.compile.proofs.+listed.Goals as goal

pub with-answer-requires-clause-nodes_bound : goal.with-answer-requires-clause-nodes_bound
with-answer-requires-clause-nodes_bound t c = few-enough c.args.nodes.now c.args.params c.args.locals c.args.dest c.requires.dest_value
