-- What the generator takes into an instruction fits its field: shift amounts, 16-bit literals, masks of one run.
use Rattle.std.specs.Prelude.{Option, Some, None}
use Rattle.insns.specs.declared.op.Imm16.{Imm16}
use Rattle.fold.specs.declared.Tail.{Tail}
use mathlib.Core.Path.{◌≡◌, refl, subst}
use mathlib.Core.Bool.{Bool, true, false, cond}
use Prim.Native.Nat.{ℕ, ◌<◌}
use lib.IntN.{ℤ, pos, negsuc}
use lib.Signed.{mag}
use lib.Dec.{ltb}
use borrow.Author.Tests.{ltb-true}
use Rattle.table.specs.Tree.{Tree, leaf, unary, binary, ternary, Arith, bit_and, bit_or, bit_xor, lshift, rshift, add, sub, mul, div, mod', arith, cmp, and, or}
use Rattle.fold.specs.Literal.{fits16, lit_of, const_of, imm_of, imm_lit, as_imm16, amount_of, amount_lit}
use Rattle.fold.specs.Fold.{shift_by, shifted_by, fold_of}
use Rattle.fold.proofs.Folding.{Folding, general, mask, shift-mask, shift-left, shift-right, plus, minus, times, folding}
use Rattle.fold.proofs.literal.Runs.{run-exactly}
use Rattle.claim.proofs.fragments.Fits.{TailFits}

abbrev pub AmountFits : Option ℕ → Type 0
AmountFits (Some k) = k < 64
AmountFits None = Unit {0}

amount-fits : (z : ℤ) → AmountFits (amount_of z)
amount-fits (negsuc n) = tt
amount-fits (pos n) = go (ltb n 64) refl
  where
    go : (t : Bool) → ltb n 64 ≡ t → AmountFits (cond t (Some n) None)
    go true e = ltb-true n 64 e
    go false e = tt

amount-lit : (l : Option ℤ) → AmountFits (amount_lit l)
amount-lit (Some z) = amount-fits z
amount-lit None = tt

shifted_fits : (t : Tree) → AmountFits (shifted_by t)
unfolding shifted_by shift_by
shifted_fits (leaf l) = tt
shifted_fits (unary o a) = tt
shifted_fits (binary (arith bit_and) a b) = tt
shifted_fits (binary (arith bit_or) a b) = tt
shifted_fits (binary (arith bit_xor) a b) = tt
shifted_fits (binary (arith lshift) a b) = tt
shifted_fits (binary (arith rshift) a b) = amount-lit (const_of b)
shifted_fits (binary (arith add) a b) = tt
shifted_fits (binary (arith sub) a b) = tt
shifted_fits (binary (arith mul) a b) = tt
shifted_fits (binary (arith div) a b) = tt
shifted_fits (binary (arith mod') a b) = tt
shifted_fits (binary (cmp c) a b) = tt
shifted_fits (binary and a b) = tt
shifted_fits (binary or a b) = tt
shifted_fits (ternary c a b) = tt

abbrev pub ImmFits : Option Imm16 → Type 0
ImmFits (Some z) = mag z.n < 32768
ImmFits None = Unit {0}

imm-fits : (z : ℤ) → ImmFits (imm_of z)
imm-fits z = go (fits16 z) refl
  where
    go : (t : Bool) → fits16 z ≡ t → ImmFits (cond t (Some (record { n = z })) None)
    go true e = ltb-true (mag z) 32768 e
    go false e = tt

imm-lit : (l : Option ℤ) → ImmFits (imm_lit l)
imm-lit (Some z) = imm-fits z
imm-lit None = tt

abbrev pub FoldFits : Option Tail → Type 0
FoldFits (Some tail) = TailFits tail
FoldFits None = Unit {0}

-- by the ways in which a fold comes about
folding-fits : {o : Arith} {s : Option ℕ} {l : Option ℤ} {f : Option Tail} → AmountFits s → Folding o s l f → FoldFits f
folding-fits h general = tt
folding-fits h (mask {z} {lo} {len} e) = ((run-exactly z lo len).0 e).short
folding-fits h (shift-mask {k} {z} {lo} {len} e) = (h, ((run-exactly z lo len).0 e).short)
folding-fits h (shift-left {s} {z} e) = subst AmountFits e (amount-fits z)
folding-fits h (shift-right {s} {z} e) = subst AmountFits e (amount-fits z)
folding-fits h (plus {s} {z} e) = subst ImmFits e (imm-fits z)
folding-fits h (minus {s} {z} e) = subst ImmFits e (imm-fits z)
folding-fits h (times {s} {z} e) = subst ImmFits e (imm-fits z)

pub fold-fits : (o : Arith) (a b : Tree) → FoldFits (fold_of o a b)
fold-fits o a b = folding-fits (shifted_fits a) (folding o (shifted_by a) (const_of b))

pub imm16-fits : (t : Tree) → ImmFits (as_imm16 t)
imm16-fits t = imm-lit (lit_of t)
