-- `word::put_mov` meets its contract: there already, or a mov.
use borrow.Author.Rules.{rules}
use Rattle.emit.proofs.Laws.{leaves}
use Rattle.emit.proofs.word.put_mov.Goals as goal

pub returns-then-a-d : goal.returns-then-a-d
returns-then-a-d c = search (leaves, rules, c.in_ok-a.was)

pub returns : goal.returns
returns c = search (leaves, rules, c.in_ok-a.was)
