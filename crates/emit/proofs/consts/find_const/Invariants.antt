-- What is left finds what the whole finds.
use Rattle.emit.proofs.ConstLaws.{Seeking}
use Rattle.emit.proofs.consts.find_const.Given as goal

abbrev pub invariant-loop-k : goal.invariant-loop-k
invariant-loop-k l = Seeking l.kinds l.payloads l.n l.constant l.k
