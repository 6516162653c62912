-- `whole_part` meets its contract: the digits are moved up by at most 11 places, so none is lost.
use native.Mathlib.Omega.{arith}
use Rattle.float.proofs.standing.Laws.{whole-shifted}
use Rattle.float.proofs.standing.whole_part.Goals as goal

pub overflow_add-result : goal.overflow_add-result
overflow_add-result c = omega arith

pub overflow_sub-result : goal.overflow_sub-result
overflow_sub-result c = omega (arith, c.requires.0)

pub overflow_shl-result : goal.overflow_shl-result
overflow_shl-result c = omega (arith, c.requires.1)

pub returns : goal.returns
returns c = whole-shifted c.args.r c.requires.0 c.requires.1
