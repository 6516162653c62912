-- `jump::load_true` meets its contract: one step after the other.
use Rattle.emit.specs.Jump.{true_d}
use borrow.Author.Rules.{rules}
use Rattle.emit.proofs.jump.JumpLaws.{chains, counted, room-kept}
use Rattle.emit.proofs.jump.load_true.Goals as goal

pub settle-requires : goal.settle-requires
settle-requires c = counted (room-kept c.requires c.patch_jumps.ensures c.in_ok-s.was) c.emit_load-x.ensures

pub returns-in_err-s : goal.returns-in_err-s
unfolding true_d
returns-in_err-s c = search rules

pub returns : goal.returns
returns c = search (chains, rules, c.in_ok-s.was)
