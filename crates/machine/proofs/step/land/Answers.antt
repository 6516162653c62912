-- `step::land` meets its contract: by the sign of the displacement.
use borrow.Author.Rules.{rules}
use Rattle.machine.proofs.StepLaws.{steps}
use Rattle.machine.proofs.step.land.Goals as goal

pub returns-then-n-lt0 : goal.returns-then-n-lt0
returns-then-n-lt0 c = search (steps, rules)

pub returns-then-m-len : goal.returns-then-m-len
returns-then-m-len c = search (steps, rules)

pub returns : goal.returns
returns c = search (steps, rules)
