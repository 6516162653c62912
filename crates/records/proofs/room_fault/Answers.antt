-- `records::room_fault` meets its contract: a law for each way out.
use Rattle.records.proofs.Laws.{rooms}
use Rattle.records.proofs.room_fault.Goals as goal

pub returns-then-nodes-gt-MAX_NODES : goal.returns-then-nodes-gt-MAX_NODES
returns-then-nodes-gt-MAX_NODES c = search rooms

pub returns-then-words-nodes : goal.returns-then-words-nodes
returns-then-words-nodes c = search rooms

pub returns : goal.returns
returns c = search rooms
