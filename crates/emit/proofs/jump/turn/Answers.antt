-- `jump::turn` meets its contract: one step after the other.
use Rattle.emit.specs.Jump.{turn_d}
use borrow.Author.Rules.{rules}
use Rattle.emit.proofs.jump.JumpLaws.{chains, room-kept}
use Rattle.emit.proofs.jump.turn.Goals as goal

pub patch_jumps-requires : goal.patch_jumps-requires
patch_jumps-requires c = room-kept c.requires c.emit_jmp.ensures c.in_ok-s.was

pub returns-in_err-s : goal.returns-in_err-s
unfolding turn_d
returns-in_err-s c = search rules

pub returns : goal.returns
returns c = search (chains, rules, c.in_ok-s.was)
