-- `three` meets its contract: not run here, or two reads and the operator.
use borrow.Author.Rules.{rules}
use Rattle.effect.proofs.EffectLaws.{forms}
use Rattle.effect.proofs.three.Goals as goal

pub returns-then-kind-eq0 : goal.returns-then-kind-eq0
returns-then-kind-eq0 c = search (forms, rules)

pub returns : goal.returns
returns c = search (forms, rules)
