-- `check::layout_fault` meets its contract: each return is a law of the sum.
use borrow.Author.Rules.{rules}
use Rattle.table.proofs.Parts.{parts}
use Rattle.table.proofs.check.layout_fault.Goals as goal

ruleset laws = (parts, rules)

pub returns-then-params-gt-MAX_REGISTERS : goal.returns-then-params-gt-MAX_REGISTERS
returns-then-params-gt-MAX_REGISTERS c = search laws

pub returns-then-params-locals : goal.returns-then-params-locals
returns-then-params-locals c = search laws

pub returns : goal.returns
returns c = search laws
