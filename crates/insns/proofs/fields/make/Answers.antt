-- `fields::make` meets its contract: the fields from i on decide as all do; then what is packed is those from i on.
use mathlib.Core.Path.{◌≡◌, sym, ◌∙◌}
use mathlib.Core.Bool.{true}
use native.Mathlib.Omega.{arith}
use Rattle.insns.specs.Fields.{all_fit, word_if}
use Rattle.insns.proofs.Packing.{misfit, all-tested, pack-from-lt, join-from-lt}
use Rattle.insns.proofs.fields.make.Goals as goal
use Rattle.insns.proofs.fields.make.Goals.{After-loop-i, After-loop-i-2}

pub returns-then-size-bits : goal.returns-then-size-bits
unfolding word_if
returns-then-size-bits c = rw (← c.loop-i.invariant, misfit c.args.fields.now c.loop-i.i (0, 0) c.loop-i-test.true c.if-size-bits.true)

-- every field fits
fit : (c : After-loop-i) → all_fit c.args.fields.now ≡ true
fit c = sym c.loop-i.invariant ∙ all-tested c.args.fields.now c.loop-i.i c.loop-i-test.false

pub overflow_mul-above : goal.overflow_mul-above
overflow_mul-above c =
    let e = fit (goal.at.overflow_mul-above c).After-loop-i in
    record { fits = omega (arith, c.requires, join-from-lt c.args.fields.now c.loop-i-2.i (0, 0) e c.loop-i-2-test.true c.loop-i-2.auto.i c.loop-i-2.invariant) }

pub overflow_add-above : goal.overflow_add-above
overflow_add-above c =
    let e = fit (goal.at.overflow_add-above c).After-loop-i in
    record { fits = omega (arith, c.requires, join-from-lt c.args.fields.now c.loop-i-2.i (0, 0) e c.loop-i-2-test.true c.loop-i-2.auto.i c.loop-i-2.invariant) }

pub overflow_mul-result : goal.overflow_mul-result
overflow_mul-result c =
    let e = fit (goal.at.overflow_mul-result c).After-loop-i in
    record { fits = omega (arith, c.requires, c.loop-i-2.invariant, pack-from-lt c.args.fields.now c.loop-i-2.i e) }

pub overflow_add-result : goal.overflow_add-result
overflow_add-result c =
    let e = fit (goal.at.overflow_add-result c).After-loop-i in
    record { fits = omega (arith, c.ranges.op, c.requires, c.loop-i-2.invariant, pack-from-lt c.args.fields.now c.loop-i-2.i e) }

pub returns : goal.returns
unfolding word_if
returns c =
    let e = fit (goal.at.returns c).After-loop-i in
    let z : c.loop-i-2.i ≡ 0 = omega (arith, c.loop-i-2-test.false) in
    rw (e, c.loop-i-2.invariant, z)
