-- What a number makes is the number.
use Rattle.std.proofs.Common.{rules}
use Rattle.replay_io.proofs.Made.{numbers_read}
use Rattle.replay_io.proofs.read_words.Goals as goal

pub returns-clause-values : goal.returns-clause-values
returns-clause-values g c = numbers_read _ (λ w. w) c.read_into.result _ c.read_into.new.room c.args.n c.read_into.ensures.values (λ w y l m. search rules)
