-- `decimal::wide` meets its contract. The invariant: the digits kept and one more enclose the whole part.
use mathlib.Core.Path.{◌∙◌}
use native.Mathlib.Omega.{arith}
use Rattle.text.proofs.decimal.Digits.{value-below}
use Rattle.text.proofs.decimal.Settling.{halving-none, halving-small, halving-few, halving-more, wide-equal, wide-between}
use Rattle.text.proofs.decimal.wide.Goals as goal

pub loop-m-init : goal.loop-m-init
loop-m-init c = halving-none _ c.requires.bound

pub overflow_mul-p : goal.overflow_mul-p
overflow_mul-p c = omega (arith, halving-small c.loop-m.invariant (omega arith))

pub overflow_add-e : goal.overflow_add-e
overflow_add-e c = omega (arith, halving-few c.loop-m.invariant (omega arith))

pub loop-m-preserved : goal.loop-m-preserved
loop-m-preserved c = halving-more c.loop-m.invariant (omega arith) (omega arith)

pub overflow_mul-m : goal.overflow_mul-m
overflow_mul-m c = omega (arith, c.loop-m.invariant.floor)

pub overflow_mul-e : goal.overflow_mul-e
overflow_mul-e c = omega (arith, halving-few c.loop-m.invariant (omega arith))

pub overflow_add-e-then-m-p : goal.overflow_add-e-then-m-p
overflow_add-e-then-m-p c = omega (arith, halving-few c.loop-m.invariant (omega arith))

pub settle-requires : goal.settle-requires
settle-requires c = omega (arith, halving-few c.loop-m.invariant (omega arith))

pub returns-then-m-p : goal.returns-then-m-p
returns-then-m-p c = c.settle.ensures ∙ wide-equal c.loop-m.invariant (omega arith) _ _ _ (omega arith) (value-below _ c.requires.f_value) _ c.if-m-p.true c.is_zero.ensures

pub overflow_mul-e-2 : goal.overflow_mul-e-2
overflow_mul-e-2 c = omega (arith, halving-few c.loop-m.invariant (omega arith))

pub overflow_add-e-2 : goal.overflow_add-e-2
overflow_add-e-2 c = omega (arith, halving-few c.loop-m.invariant (omega arith))

pub settle-requires-2 : goal.settle-requires-2
settle-requires-2 c = omega (arith, halving-few c.loop-m.invariant (omega arith))

pub returns : goal.returns
returns c = c.settle-2.ensures ∙ wide-between c.loop-m.invariant (omega arith) _ _ _ (omega arith) (value-below _ c.requires.f_value) c.if-m-p.false
