-- `pattern` meets its contract: only a NaN differs from itself, and the kit writes the same NaN.
use mathlib.Core.Path.{◌≡◌, sym, ap, subst}
use mathlib.Core.Bool.{false, not}
use lib.Dec.{T}
use lib.Ieee.{Float, nan, inf, fin, is_nan, ne, to_bits, binary64}
use lib.Ieee.Compare.{differs_from_itself}
use Rattle.float.proofs.bits.pattern.Goals as goal

no_nan : (x : Float) → ne x x ≡ false → T (not (is_nan x))
unfolding is_nan ne
no_nan nan h = subst T h tt
no_nan (inf s) h = tt
no_nan (fin s m e) h = tt

pub float_to_bits-result : goal.float_to_bits-result
unfolding to_bits
float_to_bits-result c = no_nan c.args.x c.if-x.false

pub returns-then-x : goal.returns-then-x
unfolding to_bits
returns-then-x c = sym (ap (to_bits binary64) (differs_from_itself c.args.x (subst T (sym c.if-x.true) tt)))
