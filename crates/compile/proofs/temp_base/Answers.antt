-- `temp_base` is where temporaries start.
use Rattle.table.specs.Table.{temp_base_of}
use borrow.Author.Rules.{rules}
use Rattle.compile.proofs.temp_base.Goals as goal

pub returns-then-sum-eq0 : goal.returns-then-sum-eq0
unfolding temp_base_of
returns-then-sum-eq0 c = search rules

pub returns-else-sum-eq0 : goal.returns-else-sum-eq0
unfolding temp_base_of
returns-else-sum-eq0 c = search rules
