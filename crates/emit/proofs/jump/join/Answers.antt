-- `jump::join` meets its contract: by the side that the left jumps go to.
use borrow.Author.Rules.{rules}
use Rattle.emit.proofs.jump.JumpLaws.{join-room, join-same, join-refused, join-moved}
use Rattle.emit.proofs.jump.join.Goals as goal

pub overflow_add-result : goal.overflow_add-result
overflow_add-result c = let h = join-room c.requires c.in_ok-k.was in search rules

pub returns-then-out : goal.returns-then-out
returns-then-out c = join-same c.requires c.in_ok-k.was c.if-out.true

pub returns-in_err-t : goal.returns-in_err-t
returns-in_err-t c = join-refused c.requires c.in_ok-k.was c.if-out.false c.patch_jumps.ensures c.in_err-t.was (search rules)

pub slide-requires : goal.slide-requires
slide-requires c = join-room c.requires c.in_ok-k.was

pub returns : goal.returns
returns c = join-moved c.requires c.in_ok-k.was c.if-out.false c.patch_jumps.ensures c.in_ok-t.was c.slide.ensures c.slide.auto.jumps
