-- `jump` meets its contract: two reads, compared.
use borrow.Author.Rules.{rules}
use Rattle.effect.proofs.EffectLaws.{forms}
use Rattle.effect.proofs.jump.Goals as goal

pub returns : goal.returns
returns c = search (forms, rules)
