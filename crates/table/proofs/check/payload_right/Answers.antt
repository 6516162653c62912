-- `check::payload_right` meets its contract: what is compared says it of each kind.
use borrow.Author.Rules.{rules}
use Rattle.table.proofs.Rights.{rights}
use Rattle.table.proofs.check.payload_right.Goals as goal

pub returns : goal.returns
returns c = search (rights, rules)
