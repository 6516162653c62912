-- `opcodes::three_of` meets its contract: by the kind of the operator.
use Rattle.fold.proofs.opcodes.KindLaws.{three-arm, three-last}
use Rattle.fold.proofs.opcodes.three_of.Goals as goal

pub returns-in-8 : goal.returns-in-8
returns-in-8 c = search (three-arm, three-last)

pub returns-in-9 : goal.returns-in-9
returns-in-9 c = search (three-arm, three-last)

pub returns-in-10 : goal.returns-in-10
returns-in-10 c = search (three-arm, three-last)

pub returns-in-11 : goal.returns-in-11
returns-in-11 c = search (three-arm, three-last)

pub returns-in-12 : goal.returns-in-12
returns-in-12 c = search (three-arm, three-last)

pub returns-in-13 : goal.returns-in-13
returns-in-13 c = search (three-arm, three-last)

pub returns-in-14 : goal.returns-in-14
returns-in-14 c = search (three-arm, three-last)

pub returns-in-15 : goal.returns-in-15
returns-in-15 c = search (three-arm, three-last)

pub returns-in-16 : goal.returns-in-16
returns-in-16 c = search (three-arm, three-last)

pub returns-in_default : goal.returns-in_default
returns-in_default c = search (three-arm, three-last)
