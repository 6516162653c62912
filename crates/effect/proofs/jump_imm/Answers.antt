-- `jump_imm` meets its contract: a read and a literal, compared.
use borrow.Author.Rules.{rules}
use Rattle.effect.proofs.EffectLaws.{forms}
use Rattle.effect.proofs.jump_imm.Goals as goal

pub returns : goal.returns
returns c = search (forms, rules)
