-- `if_test` meets its contract: by the sense.
use borrow.Author.Rules.{rules}
use Rattle.effect.proofs.EffectLaws.{arm-sense}
use Rattle.effect.specs.Forms.{if_test}
use Rattle.effect.proofs.if_test.Goals as goal

pub enum_told-1 : goal.enum_told-1
unfolding if_test
enum_told-1 c = search (arm-sense, rules)

pub enum_told-in-No : goal.enum_told-in-No
unfolding if_test
enum_told-in-No c = search (arm-sense, rules)

pub inverted-requires : goal.inverted-requires
unfolding if_test
inverted-requires c = search (arm-sense, rules)

pub returns-in-Yes : goal.returns-in-Yes
unfolding if_test
returns-in-Yes c = search (arm-sense, rules)

pub returns-in-No : goal.returns-in-No
unfolding if_test
returns-in-No c = search (arm-sense, rules)
