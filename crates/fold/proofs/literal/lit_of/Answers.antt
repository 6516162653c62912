-- `literal::lit_of` meets its contract: by the kind.
use borrow.Author.Rules.{rules}
use Rattle.fold.proofs.literal.Literals.{literals}
use Rattle.fold.proofs.literal.lit_of.Goals as goal

pub returns-then-kind_at-eq-INT : goal.returns-then-kind_at-eq-INT
returns-then-kind_at-eq-INT c = search (literals, rules)

pub returns : goal.returns
returns c = search (literals, rules)
