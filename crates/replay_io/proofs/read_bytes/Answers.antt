-- What a number makes is its byte.
use Rattle.std.proofs.Common.{min, rules}
use Rattle.replay_io.proofs.Made.{numbers_read}
use Rattle.replay_io.proofs.read_bytes.Goals as goal

pub returns-clause-values : goal.returns-clause-values
returns-clause-values g c = numbers_read _ (λ w. min w 255) c.read_into.result _ c.read_into.new.room c.args.n c.read_into.ensures.values (λ w y l m. search rules)
