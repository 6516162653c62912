-- `state::alloc` meets its contract: no register left, or the next one.
use borrow.Author.Rules.{rules}
use Rattle.emit.proofs.Laws.{leaves}
use Rattle.emit.proofs.state.alloc.Goals as goal

pub returns-then-d-ge-MAX_REGISTERS : goal.returns-then-d-ge-MAX_REGISTERS
returns-then-d-ge-MAX_REGISTERS c = search (leaves, rules)

pub returns : goal.returns
returns c = search (leaves, rules)
