-- Each digit, from the right, is doubled, and what was carried to it added.
use Rattle.std.proofs.Common.{arith}
use Rattle.text.proofs.decimal.Digits.{doubling-none, doubling-at, doubling-more}
use Rattle.text.proofs.decimal.double.Goals as goal

pub loop-i-init : goal.loop-i-init
loop-i-init c = doubling-none c.args.f.now

pub overflow_sub-d : goal.overflow_sub-d
overflow_sub-d c = let d = doubling-at c.loop-i.invariant c.requires (omega arith) in omega arith

pub overflow_mul-d : goal.overflow_mul-d
overflow_mul-d c = let d = doubling-at c.loop-i.invariant c.requires (omega arith) in omega arith

pub overflow_add-d : goal.overflow_add-d
overflow_add-d c = let d = doubling-at c.loop-i.invariant c.requires (omega arith) in omega arith

pub loop-i-preserved : goal.loop-i-preserved
loop-i-preserved c = doubling-more c.loop-i.invariant c.requires (omega arith)
