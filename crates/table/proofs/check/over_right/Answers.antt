-- `check::over_right` meets its contract: the first child and the others' depth say what the node covers.
use borrow.Author.Rules.{rules}
use Rattle.table.proofs.Rights.{rights, over-fits}
use Rattle.table.proofs.check.over_right.Goals as goal

pub returns-then-e-eq0 : goal.returns-then-e-eq0
returns-then-e-eq0 c = search rights

pub returns-then-first_at : goal.returns-then-first_at
returns-then-first_at c = search rights

pub overflow_add-max : goal.overflow_add-max
overflow_add-max c = search (over-fits, rules)

pub returns-then-d-max : goal.returns-then-d-max
returns-then-d-max c = search rights

pub returns-then-d-gt-MAX_DEPTH : goal.returns-then-d-gt-MAX_DEPTH
returns-then-d-gt-MAX_DEPTH c = search rights

pub returns : goal.returns
returns c = search rights depth 14
