-- `check::dest_fault` meets its contract: each return is a law of the destination.
use borrow.Author.Rules.{rules}
use Rattle.table.proofs.Parts.{parts}
use Rattle.table.proofs.check.dest_fault.Goals as goal

ruleset laws = (parts, rules)

pub returns-in-Some : goal.returns-in-Some
returns-in-Some c = search laws

pub returns-in_default : goal.returns-in_default
returns-in_default c = search laws

pub returns-in_default-2 : goal.returns-in_default-2
returns-in_default-2 c = search laws
