-- `run_from` meets its contract. The loop's invariant: what is left of the run from here gives the whole answer.
use borrow.Author.Rules.{rules}
use Rattle.machine.proofs.RunLaws.{turns}
use Rattle.run.proofs.run_from.Goals as goal

pub returns-then-steps-budget : goal.returns-then-steps-budget
returns-then-steps-budget c = search (turns, rules)

pub returns-in-Err : goal.returns-in-Err
returns-in-Err c = search (turns, rules)

pub loop-at-preserved : goal.loop-at-preserved
loop-at-preserved c = search (turns, rules)

pub returns : goal.returns
returns c = search (turns, rules)
