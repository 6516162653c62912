-- `word::put_three` meets its contract: as with one operand.
use Rattle.emit.specs.Steps.{put_to, put_d}
use borrow.Author.Rules.{rules}
use Rattle.emit.proofs.Laws.{leaves}
use Rattle.emit.proofs.word.put_three.Goals as goal

pub returns-in_err-d : goal.returns-in_err-d
unfolding put_to put_d
returns-in_err-d c = search rules

pub returns : goal.returns
returns c = search (leaves, rules, c.in_ok-b.was, c.in_ok-d.was)
