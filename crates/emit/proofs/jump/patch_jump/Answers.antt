-- `jump::patch_jump` meets its contract: the words before the end are patched, those after it stay.
use Rattle.emit.specs.Jump.{patched_d}
use borrow.Author.Rules.{rules}
use Rattle.emit.proofs.jump.JumpLaws.{patches}
use Rattle.emit.proofs.jump.patch_jump.Goals as goal

pub returns-in_err-patch : goal.returns-in_err-patch
unfolding patched_d
returns-in_err-patch c = search rules

pub returns : goal.returns
returns c = search (patches, rules, c.in_ok-patch.was)
