-- `opcodes::cmp_branch` meets its contract: by the kind of the comparison and the sense.
use Rattle.fold.proofs.opcodes.KindLaws.{branches}
use Rattle.fold.proofs.opcodes.cmp_branch.Goals as goal

pub returns-in-18 : goal.returns-in-18
returns-in-18 c = search branches

pub returns-in-19 : goal.returns-in-19
returns-in-19 c = search branches

pub returns-in-20 : goal.returns-in-20
returns-in-20 c = search branches

pub returns-in-21 : goal.returns-in-21
returns-in-21 c = search branches

pub returns-in-22 : goal.returns-in-22
returns-in-22 c = search branches

pub returns-in_default : goal.returns-in_default
returns-in_default c = search branches

pub returns-in-18-k : goal.returns-in-18-k
returns-in-18-k c = search branches

pub returns-in-19-k : goal.returns-in-19-k
returns-in-19-k c = search branches

pub returns-in-20-k : goal.returns-in-20-k
returns-in-20-k c = search branches

pub returns-in-21-k : goal.returns-in-21-k
returns-in-21-k c = search branches

pub returns-in-22-k : goal.returns-in-22-k
returns-in-22-k c = search branches

pub returns-in_default-k : goal.returns-in_default-k
returns-in_default-k c = search branches
