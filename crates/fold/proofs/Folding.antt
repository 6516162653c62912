-- How a fold comes about: one case for each way in which an instruction takes in a literal, with what is known of the literal then. What holds of
-- every fold is shown by these cases and not by a walk over the definition.
use Rattle.std.specs.Prelude.{Option, Some, None}
use Rattle.insns.specs.declared.op.Imm16.{Imm16}
use Rattle.fold.specs.declared.Tail.{Tail}
use mathlib.Core.Path.{◌≡◌, refl}
use Prim.Native.Nat.{ℕ}
use lib.IntN.{ℤ}
use Rattle.table.specs.Tree.{Arith, bit_and, bit_or, bit_xor, lshift, rshift, add, sub, mul, div, mod'}
use Rattle.insns.specs.declared.op.Arith.TheVariants.{Plus, Minus, Times}
use Rattle.insns.specs.declared.op.Imm16.{Imm16 as Small}
use Rattle.insns.specs.declared.op.Shift.TheVariants as Shift
use Rattle.fold.specs.Literal.{bit_run, imm_of, amount_of}
use Rattle.fold.specs.Fold.{mask_fold, shift_fold, imm_fold, fold_by, fold_lit}

-- the operator, the amount by which its left operand is a right shift, the literal on its right, and the fold
pub data Folding : Arith → Option ℕ → Option ℤ → Option Tail → Type 0 where
  general : {o : Arith} {s : Option ℕ} {l : Option ℤ} → Folding o s l None
  mask : {z : ℤ} {lo len : ℕ} → bit_run z ≡ Some (lo, len) → Folding bit_and None (Some z) (Some (Tail.Mask lo len))
  shift-mask : {k : ℕ} {z : ℤ} {lo len : ℕ} → bit_run z ≡ Some (lo, len) → Folding bit_and (Some k) (Some z) (Some (Tail.ShiftMask k lo len))
  shift-left : {s : Option ℕ} {z : ℤ} {k : ℕ} → amount_of z ≡ Some k → Folding lshift s (Some z) (Some (Tail.Shift Shift.Left k))
  shift-right : {s : Option ℕ} {z : ℤ} {k : ℕ} → amount_of z ≡ Some k → Folding rshift s (Some z) (Some (Tail.Shift Shift.Right k))
  plus : {s : Option ℕ} {z : ℤ} {n : Small} → imm_of z ≡ Some n → Folding add s (Some z) (Some (Tail.Imm Plus n))
  minus : {s : Option ℕ} {z : ℤ} {n : Small} → imm_of z ≡ Some n → Folding sub s (Some z) (Some (Tail.Imm Minus n))
  times : {s : Option ℕ} {z : ℤ} {n : Small} → imm_of z ≡ Some n → Folding mul s (Some z) (Some (Tail.Imm Times n))

-- by what the test of the literal gives
masking : (s : Option ℕ) (z : ℤ) (r : Option (ℕ × ℕ)) → bit_run z ≡ r → Folding bit_and s (Some z) (mask_fold s r)
masking None z (Some (lo, len)) e = mask e
masking (Some k) z (Some (lo, len)) e = shift-mask e
masking None z None e = general
masking (Some k) z None e = general

lefts : (s : Option ℕ) (z : ℤ) (a : Option ℕ) → amount_of z ≡ a → Folding lshift s (Some z) (shift_fold Shift.Left a)
lefts s z (Some k) e = shift-left e
lefts s z None e = general

rights : (s : Option ℕ) (z : ℤ) (a : Option ℕ) → amount_of z ≡ a → Folding rshift s (Some z) (shift_fold Shift.Right a)
rights s z (Some k) e = shift-right e
rights s z None e = general

pluses : (s : Option ℕ) (z : ℤ) (i : Option Imm16) → imm_of z ≡ i → Folding add s (Some z) (imm_fold Plus i)
pluses s z (Some n) e = plus e
pluses s z None e = general

minuses : (s : Option ℕ) (z : ℤ) (i : Option Imm16) → imm_of z ≡ i → Folding sub s (Some z) (imm_fold Minus i)
minuses s z (Some n) e = minus e
minuses s z None e = general

timeses : (s : Option ℕ) (z : ℤ) (i : Option Imm16) → imm_of z ≡ i → Folding mul s (Some z) (imm_fold Times i)
timeses s z (Some n) e = times e
timeses s z None e = general

-- every fold is one of these; of two trees a and b, `folding o (shifted_by a) (const_of b)`
pub folding : (o : Arith) (s : Option ℕ) (l : Option ℤ) → Folding o s l (fold_lit o s l)
unfolding fold_by
folding o s None = general
folding bit_and s (Some z) = masking s z (bit_run z) refl
folding bit_or s (Some z) = general
folding bit_xor s (Some z) = general
folding lshift s (Some z) = lefts s z (amount_of z) refl
folding rshift s (Some z) = rights s z (amount_of z) refl
folding add s (Some z) = pluses s z (imm_of z) refl
folding sub s (Some z) = minuses s z (imm_of z) refl
folding mul s (Some z) = timeses s z (imm_of z) refl
folding div s (Some z) = general
folding mod' s (Some z) = general
