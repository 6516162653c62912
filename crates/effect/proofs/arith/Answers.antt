-- `arith` meets its contract: what was read, and a literal.
use borrow.Author.Rules.{rules}
use Rattle.effect.proofs.EffectLaws.{forms}
use Rattle.effect.proofs.arith.Goals as goal

pub returns : goal.returns
returns c = search (forms, rules)
