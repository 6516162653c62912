-- `check::last_fault` meets its contract: each return is a law of the last node.
use borrow.Author.Rules.{rules}
use Rattle.table.proofs.Parts.{parts}
use Rattle.table.proofs.check.last_fault.Goals as goal

ruleset laws = (parts, rules)

pub returns-then-first_at-ne0 : goal.returns-then-first_at-ne0
returns-then-first_at-ne0 c = search laws

pub returns : goal.returns
returns c = search laws
