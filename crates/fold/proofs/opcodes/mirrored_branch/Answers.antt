-- `opcodes::mirrored_branch` meets its contract: one table after the other.
use Rattle.fold.specs.Opcodes.{mirror}
use Rattle.fold.proofs.opcodes.mirrored_branch.Goals as goal

pub returns : goal.returns
returns c = (λ o e. c.cmp_branch.ensures (mirror o) (c.mirror_cmp.ensures o e))
