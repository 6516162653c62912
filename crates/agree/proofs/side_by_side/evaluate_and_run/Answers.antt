-- `side_by_side::evaluate_and_run` meets its contract: its two calls are equal to the definitions that the theorem speaks of.
use borrow.Author.Rules.{rules}
use Rattle.claim.proofs.Theorem.{promised}
use Rattle.agree.proofs.side_by_side.evaluate_and_run.Goals as goal

pub returns : goal.returns
returns c = search (promised, rules)
