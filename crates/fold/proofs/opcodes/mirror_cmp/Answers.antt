-- `opcodes::mirror_cmp` meets its contract: by the kind of the comparison.
use Rattle.fold.proofs.opcodes.KindLaws.{mirror-arm, mirror-rest}
use Rattle.fold.proofs.opcodes.mirror_cmp.Goals as goal

pub returns-in-20 : goal.returns-in-20
returns-in-20 c = search (mirror-arm, mirror-rest)

pub returns-in-21 : goal.returns-in-21
returns-in-21 c = search (mirror-arm, mirror-rest)

pub returns-in-22 : goal.returns-in-22
returns-in-22 c = search (mirror-arm, mirror-rest)

pub returns-in-23 : goal.returns-in-23
returns-in-23 c = search (mirror-arm, mirror-rest)

pub returns-in_default : goal.returns-in_default
returns-in_default c = search (mirror-arm, mirror-rest)
