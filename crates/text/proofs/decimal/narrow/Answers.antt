-- `decimal::narrow` meets its contract. The invariant: the binary digits so far and what is left of the fraction are the number.
use mathlib.Core.Path.{◌∙◌}
use Prim.Native.Nat.{◌^◌, ◌≤◌, ◌<◌}
use native.Mathlib.Omega.{arith}
use Rattle.text.proofs.decimal.Digits.{value-below}
use Rattle.text.proofs.decimal.Settling.{narrow-more, narrow-done}
use Rattle.text.proofs.decimal.narrow.Goals as goal
use Rattle.text.proofs.decimal.narrow.Goals.{else-loop-m-test, then-loop-m-test+then-e-eq0}

pub loop-m-preserved : goal.loop-m-preserved
loop-m-preserved c =
    let inv = c.loop-m.invariant in
    let d = c.double.ensures in
    let k = c.double.auto.f in
    (rw k (narrow-more _ _ _ _ _ _ _ inv.0 (omega arith) d.twice), k ∙ inv.1, d.digits, omega (arith, d.carry), omega arith)

pub returns : goal.returns
returns c =
    let inv = c.loop-m.invariant in
    let came : 0 < c.loop-m.e → 2 ^ 52 ≤ c.loop-m.m = elim c.loop-m-test.branch [ else-loop-m-test w ↦ (λ h. omega (arith, w.loop-m-test.false)) | then-loop-m-test+then-e-eq0 w ↦ (λ h. omega (arith, w.if-e-eq0.true)) ] in
    c.settle.ensures ∙ narrow-done _ _ _ _ _ _ (rw inv.1 at inv.0) (omega arith) (omega arith) came (rw inv.1 at (value-below _ inv.2)) _ c.is_zero.ensures

pub overflow_add-m : goal.overflow_add-m
overflow_add-m c = omega (arith, c.double.ensures.carry)

pub shape_of-f : goal.shape_of-f
shape_of-f c = c.loop-m.invariant.1
