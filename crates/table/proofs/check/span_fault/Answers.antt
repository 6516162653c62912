-- `check::span_fault` meets its contract: each return is a law of the span.
use borrow.Author.Rules.{rules}
use Rattle.table.proofs.Parts.{parts}
use Rattle.table.proofs.check.span_fault.Goals as goal

ruleset laws = (parts, rules)

pub returns-in_default : goal.returns-in_default
returns-in_default c = search laws

pub returns-then-f-e : goal.returns-then-f-e
returns-then-f-e c = search laws

pub returns-then-d-eq0 : goal.returns-then-d-eq0
returns-then-d-eq0 c = search laws

pub returns-then-d-g : goal.returns-then-d-g
returns-then-d-g c = search laws

pub returns : goal.returns
returns c = search laws
