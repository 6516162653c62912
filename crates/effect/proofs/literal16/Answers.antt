-- `literal16` meets its contract: the literal is widened.
use borrow.Author.Rules.{rules}
use Rattle.effect.proofs.EffectLaws.{widens16, literal-wide}
use Rattle.effect.proofs.literal16.Goals as goal

pub overflow_cast-z : goal.overflow_cast-z
overflow_cast-z c = search (widens16, literal-wide, rules)

pub returns : goal.returns
returns c = search (widens16, literal-wide, rules)
