-- `signed_bits` meets its contract.
use mathlib.Core.Path.{◌≡◌, sym, ap, ◌∙◌}
use Prim.Native.Nat.{◌≤◌, ◌<◌}
use native.Mathlib.Omega.{arith}
use lib.Signed.{mag}
use mir.Facts.{to_z-of_z}
use Rattle.insns.proofs.bits.Sign.{neg-test, twos-far, twos-neg, twos-pos}
use Rattle.insns.proofs.bits.signed_bits.Goals as goal

-- a signed argument is passed as its bits, which the callee reads back
pub returns-then-half-n : goal.returns-then-half-n
returns-then-half-n c =
    let e : c.magnitude-n.result ≡ mag c.args.z = c.magnitude-n.ensures ∙ ap mag (to_z-of_z c.ranges.z) in
    let far : c.args.half ≤ mag c.args.z = omega arith in
    sym (twos-far _ c.args.z far)

pub returns-then-z-lt0 : goal.returns-then-z-lt0
returns-then-z-lt0 c =
    let e : c.magnitude-n.result ≡ mag c.args.z = c.magnitude-n.ensures ∙ ap mag (to_z-of_z c.ranges.z) in
    let small : mag c.args.z < c.args.half = omega arith in
    rw (twos-neg _ c.args.z small (neg-test c.ranges.z c.if-z-lt0.true)) (omega arith)

pub returns : goal.returns
returns c =
    let e : c.magnitude-n.result ≡ mag c.args.z = c.magnitude-n.ensures ∙ ap mag (to_z-of_z c.ranges.z) in
    let small : mag c.args.z < c.args.half = omega arith in
    rw (twos-pos _ c.args.z small (neg-test c.ranges.z c.if-z-lt0.false)) e
