-- `inverted` meets its contract: by definition.
use borrow.Author.Rules.{rules}
use Rattle.effect.specs.Effect.{inverted}
use Rattle.effect.proofs.inverted.Goals as goal

pub returns : goal.returns
unfolding inverted
returns c = search rules
