-- `patch::no_branch` meets its contract: each arm knows what the word decodes to.
use Rattle.decode.proofs.patch.Field.{unaimings}
use Rattle.decode.proofs.patch.no_branch.Goals as goal

pub returns-in-Some : goal.returns-in-Some
returns-in-Some c = search unaimings

pub returns-in-None : goal.returns-in-None
returns-in-None c = search unaimings
