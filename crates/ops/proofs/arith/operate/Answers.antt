-- `operate` meets its contract: what is no number is only seen not to be one.
use Rattle.std.proofs.Common.{rules}
use Rattle.ops.proofs.arith.Laws.{operate-by, no-left, no-right}
use Rattle.ops.proofs.arith.operate.Goals as goal

pub returns-in_err-x : goal.returns-in_err-x
returns-in_err-x c = search (no-left, rules)

pub returns-in_err-y : goal.returns-in_err-y
returns-in_err-y c = search (no-right, rules)

pub returns : goal.returns
returns c = search (operate-by, rules)
