-- Facts for the crates above: the operands of what decodes, and the word of what fits.
use Rattle.std.specs.Prelude.{Some, None}
use mathlib.Core.Path.{◌≡◌, refl, sym, ap, subst, ◌∙◌}
use mathlib.Core.Bool.{Bool, true, false, cond}
use mathlib.Core.List.{[], ◌∷◌}
use Prim.Native.Nat.{ℕ, suc, ◌+◌, ◌*◌, ◌-◌, ◌^◌, ◌<◌}
use native.Mathlib.Omega.{arith}
use borrow.Author.Tests.{ltb-true}
use lib.Dec.{ltb}
use lib.IntN.{ℤ, pos, negsuc}
use lib.Signed.{mag}
use Rattle.insns.specs.Fields.{raw, pack, all_fit, word_if, raw_bits}
use Rattle.insns.specs.Bits.{twos, is_raw}
use Rattle.insns.specs.Insns.{form_of, fields_of, made_of}
use Rattle.insns.specs.Opcodes.{op_of}
use Rattle.insns.specs.declared.op.Imm40.{Imm40}
use Rattle.insns.specs.declared.op.Op.{Op}
use Rattle.decode.specs.Decode.{decode_of}
use Rattle.decode.proofs.RoundTrip.{head-fits, raw-fits, made-fits, made-decode}

-- an instruction whose operands fit has a word
pub made-fit : (i : Op) → all_fit (fields_of i) ≡ true → made_of i ≡ Some (record { bits = op_of (form_of i) + 256 * pack (fields_of i) })
unfolding word_if
made-fit i e = ap (λ (b : Bool). cond b (Some (record { bits = op_of (form_of i) + 256 * pack (fields_of i) })) None) e

-- the operands of what decodes fit
pub decoded-fits : (w : ℕ) (i : Op) → decode_of w ≡ Some i → all_fit (fields_of i) ≡ true
decoded-fits w i e = (made-fits (op_of (form_of i)) (fields_of i) (record { bits = w }) (made-decode w i e)).0

-- an immediate of 40 bits that is a value's
pub record Raw (z : ℤ) : Type 0 where
  pub small : mag z < 2 ^ 39
  pub value : is_raw (twos (2 ^ 39) z) ≡ true

twos-fits : (h : ℕ) (z : ℤ) → twos h z < 2 * h → mag z < h
unfolding twos
twos-fits h (pos n) l = go (ltb n h) refl l
  where
    go : (b : Bool) → ltb n h ≡ b → cond b n (2 * h) < 2 * h → n < h
    go true e k = ltb-true n h e
    go false e k = absurd (let q : ⊥ = omega arith in q)
twos-fits h (negsuc n) l = go (ltb n h) refl l
  where
    go : (b : Bool) → ltb n h ≡ b → cond b (2 * h - suc n) (2 * h) < 2 * h → n < h
    go true e k = ltb-true n h e
    go false e k = absurd (let q : ⊥ = omega arith in q)

raw_of : (z : ℤ) → raw_bits z < 2 ^ 40 → Raw z
raw_of z l =
    let h = raw-fits z l in
    let k : twos (2 ^ 39) z < 2 * 2 ^ 39 = subst (λ (n : ℕ). n < 2 ^ 40) h.0 l in
    record { small = twos-fits (2 ^ 39) z k; value = ap is_raw (sym h.0) ∙ h.1 }

pub load-raw : (w dst : ℕ) (imm : Imm40) → decode_of w ≡ Some (Op.LoadImm40 dst imm) → Raw imm.raw
load-raw w dst imm e =
    let h = head-fits (2 ^ 16) dst (raw imm.raw ∷ []) (decoded-fits w (Op.LoadImm40 dst imm) e) in
    raw_of imm.raw (head-fits (2 ^ 40) (raw_bits imm.raw) [] h.1).0

pub ret-raw : (w : ℕ) (imm : Imm40) → decode_of w ≡ Some (Op.RetImm40 imm) → Raw imm.raw
ret-raw w imm e = raw_of imm.raw (head-fits (2 ^ 40) (raw_bits imm.raw) [] (decoded-fits w (Op.RetImm40 imm) e)).0
