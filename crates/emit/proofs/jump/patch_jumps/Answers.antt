-- `jump::patch_jumps` meets its contract: as of one branch.
use Rattle.emit.specs.Jump.{patched_d}
use borrow.Author.Rules.{rules}
use Rattle.emit.proofs.jump.JumpLaws.{patches}
use Rattle.emit.proofs.jump.patch_jumps.Goals as goal

pub returns-in_err-patch_jumps : goal.returns-in_err-patch_jumps
unfolding patched_d
returns-in_err-patch_jumps c = search rules

pub returns : goal.returns
returns c = search (patches, rules, c.in_ok-patch_jumps.was)
