-- `agree::compile_evaluate_and_run` meets its contract: what compiling left is what `evaluate_and_run` is lent; each way out is a law of `Entry`.
use borrow.Author.Rules.{rules}
use Rattle.claim.proofs.Entry.{front_fits, front-count, accepted-whole, refused-whole}
use Rattle.agree.proofs.compile_evaluate_and_run.Goals as goal

pub returns-in-Ok : goal.returns-in-Ok
returns-in-Ok c = accepted-whole c.args.nodes.now _ _ _ _ _ _ c.are_wide.ensures c.are_wide-2.ensures c.compile-compiled.ensures c.in-Ok.is c.evaluate_and_run-both.ensures

pub slice_bounds-evaluate_and_run-end : goal.slice_bounds-evaluate_and_run-end
slice_bounds-evaluate_and_run-end c = search (front_fits, rules)

pub slice_bounds-evaluate_and_run-end-in-Ok : goal.slice_bounds-evaluate_and_run-end-in-Ok
slice_bounds-evaluate_and_run-end-in-Ok c = search (front-count, front_fits, rules)

pub returns-in-Err : goal.returns-in-Err
returns-in-Err c = search (refused-whole, rules)
