-- `step::settle` meets its contract: by the effect; a branch writes nothing.
use borrow.Author.Rules.{rules}
use Rattle.machine.proofs.StepLaws.{settle-branch}
use Rattle.machine.proofs.step.settle.Goals as goal

pub returns-in-Branch : goal.returns-in-Branch
returns-in-Branch c = search (settle-branch, rules)
