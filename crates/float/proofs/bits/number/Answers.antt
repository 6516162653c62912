-- `number` meets its contract: every NaN pattern reads as the one NaN, which 0 / 0 is.
use mathlib.Core.Path.{◌≡◌, refl, sym, ◌∙◌, subst}
use mathlib.Core.Bool.{Bool, true, not}
use lib.Dec.{T}
use lib.Ieee.{Float, nan, inf, fin, is_nan, of_bits, div, binary64}
use lib.Ieee.Bits.{nan_bits_is, nan_bits_above}
use Rattle.float.proofs.bits.number.Goals as goal

nan-of : (x : Float) → is_nan x ≡ true → x ≡ nan
unfolding is_nan
nan-of nan h = refl
nan-of (inf s) h = absurd (subst T (sym h) tt)
nan-of (fin s m e) h = absurd (subst T (sym h) tt)

pub returns-then-is_nan : goal.returns-then-is_nan
unfolding of_bits div
returns-then-is_nan c =
    let p = c.args.p in
    sym (nan-of (of_bits binary64 p) (sym (nan_bits_is binary64 p) ∙ nan_bits_above binary64 p ∙ sym c.is_nan.ensures ∙ c.if-is_nan.true))

pub float_from_bits-result : goal.float_from_bits-result
float_from_bits-result c = subst (λ (b : Bool). T (not b)) (sym (nan_bits_above binary64 c.args.p ∙ sym c.is_nan.ensures ∙ c.if-is_nan.false)) tt
