-- `jump::gen_bool` meets its contract: one step after the other.
use Rattle.emit.specs.Jump.{bool_d}
use borrow.Author.Rules.{rules}
use Rattle.emit.proofs.jump.JumpLaws.{chains, room-kept}
use Rattle.emit.proofs.jump.gen_bool.Goals as goal

pub load_true-requires : goal.load_true-requires
load_true-requires c = room-kept (room-kept c.requires c.emit_load.ensures c.in_ok-s.was) c.emit_jmp.ensures c.in_ok-t.was

pub returns-in_err-s : goal.returns-in_err-s
unfolding bool_d
returns-in_err-s c = search rules

pub returns-in_err-t : goal.returns-in_err-t
unfolding bool_d
returns-in_err-t c = search rules

pub returns : goal.returns
returns c = search (chains, rules, c.in_ok-s.was, c.in_ok-t.was)
