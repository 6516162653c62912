-- `complete::complete` meets its contract. The invariant: the nodes below i are complete.
use Rattle.table.proofs.complete.Laws.{Passed}
use Rattle.table.proofs.complete.complete.Given as goal

abbrev pub invariant-loop-i : goal.invariant-loop-i
invariant-loop-i l = Passed l.initial.nodes l.nodes l.i
