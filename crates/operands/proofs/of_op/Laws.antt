-- An arm knows which instruction it has; a signed number that is passed on is read back.
use mathlib.Core.Path.{◌≡◌, sym, ap, ◌∙◌}
use Prim.Native.Nat.{ℕ}
use lib.Dec.{T, leb}
use lib.IntN.{ℤ}
use mir.Syntax.{Width, w64}
use mir.Val.{SFits, hbits, to_z, of_z}
use mir.Facts.{to_z-of_z}
use Rattle.insns.proofs.bits.Sign.{widened}
use Rattle.insns.specs.declared.op.Op.{Op}
use Rattle.operands.specs.OfOp.{plain_op}
use Rattle.operands.specs.declared.of_op.PlainOp.{PlainOp}

-- a signed operand as a pattern
pub pattern-of : {w : Width} {z : ℤ} {r : ℕ} → T (leb (hbits w) (hbits w64)) → SFits w z → r ≡ of_z w64 (to_z w64 (of_z w64 (to_z w (of_z w z)))) → r ≡ of_z w64 z
pattern-of n f q = q ∙ ap (of_z w64) (widened n f)

pub pattern-64 : {z : ℤ} {r : ℕ} → SFits w64 z → r ≡ of_z w64 (to_z w64 (of_z w64 z)) → r ≡ of_z w64 z
pattern-64 f q = q ∙ ap (of_z w64) (to_z-of_z f)

-- what holds of the variant holds of what it was taken from
pub plain_at : {i j : Op} {r : PlainOp} → i ≡ j → r ≡ plain_op j → r ≡ plain_op i
plain_at k q = q ∙ ap plain_op (sym k)
