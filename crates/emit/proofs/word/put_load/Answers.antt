-- `word::put_load` meets its contract: the destination, then the word.
use Rattle.emit.specs.Steps.{put_d}
use borrow.Author.Rules.{rules}
use Rattle.emit.proofs.Laws.{leaves}
use Rattle.emit.proofs.word.put_load.Goals as goal

pub returns-in_err-d : goal.returns-in_err-d
unfolding put_d
returns-in_err-d c = search rules

pub returns : goal.returns
returns c = search (leaves, rules, c.in_ok-d.was)
