-- `raw` meets its contract: by the tests on the bits.
use borrow.Author.Rules.{rules}
use Rattle.effect.proofs.EffectLaws.{effects}
use Rattle.effect.proofs.raw.Goals as goal

pub returns-then-b-eq1 : goal.returns-then-b-eq1
returns-then-b-eq1 c = search (effects, rules)

pub returns-then-b-eq5 : goal.returns-then-b-eq5
returns-then-b-eq5 c = search (effects, rules)

pub returns-then-b-eq9 : goal.returns-then-b-eq9
returns-then-b-eq9 c = search (effects, rules)

pub returns : goal.returns
returns c = search (effects, rules)
