-- `jump_test` meets its contract: each arm knows the comparison.
use borrow.Author.Rules.{rules}
use Rattle.effect.proofs.EffectLaws.{arm, arm-not}
use Rattle.effect.specs.Forms.{jump_test}
use Rattle.effect.proofs.jump_test.Goals as goal

pub returns-in-Eq : goal.returns-in-Eq
unfolding jump_test
returns-in-Eq c = search (arm, arm-not, rules)

pub returns-in-Ne : goal.returns-in-Ne
unfolding jump_test
returns-in-Ne c = search (arm, arm-not, rules)

pub returns-in-Lt : goal.returns-in-Lt
unfolding jump_test
returns-in-Lt c = search (arm, arm-not, rules)

pub returns-in-Le : goal.returns-in-Le
unfolding jump_test
returns-in-Le c = search (arm, arm-not, rules)

pub returns-in-Gt : goal.returns-in-Gt
unfolding jump_test
returns-in-Gt c = search (arm, arm-not, rules)

pub returns-in-Ge : goal.returns-in-Ge
unfolding jump_test
returns-in-Ge c = search (arm, arm-not, rules)

pub returns-in-Nlt : goal.returns-in-Nlt
unfolding jump_test
returns-in-Nlt c = search (arm, arm-not, rules)

pub returns-in-Nle : goal.returns-in-Nle
unfolding jump_test
returns-in-Nle c = search (arm, arm-not, rules)

pub returns-in-Ngt : goal.returns-in-Ngt
unfolding jump_test
returns-in-Ngt c = search (arm, arm-not, rules)

pub returns-in-Nge : goal.returns-in-Nge
unfolding jump_test
returns-in-Nge c = search (arm, arm-not, rules)
