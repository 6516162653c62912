-- `value::of_pattern` meets its contract: by the test for a NaN.
use mathlib.Core.Path.{sym, ap, ◌∙◌}
use lib.Ieee.{Float, binary64, to_bits}
use Rattle.float.proofs.bits.Read.{bits_back}
use Rattle.value.specs.Value.{float}
use Rattle.value.proofs.of_pattern.Goals as goal

pub returns : goal.returns
returns c =
    let p = c.args.p in
    ap (λ (x : Float). float (to_bits binary64 x)) c.number.ensures
    ∙ ap float (bits_back p c.ranges.p.fits (sym c.is_nan.ensures ∙ c.if-is_nan.false))
