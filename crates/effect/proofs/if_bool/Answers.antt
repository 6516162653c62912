-- `if_bool` meets its contract: what was read, in the branch's sense.
use borrow.Author.Rules.{rules}
use Rattle.effect.proofs.EffectLaws.{forms}
use Rattle.effect.proofs.if_bool.Goals as goal

pub returns : goal.returns
returns c = search (forms, rules)
