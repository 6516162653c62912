-- What a step writes is a register's, and has a lent form that reads back as itself.
use Rattle.std.specs.Prelude.{Option, Some, None}
use mathlib.Core.Path.{◌≡◌, refl}
use mathlib.Core.Bool.{Bool, true, false, cond}
use Prim.Native.Nat.{ℕ, ◌*◌, ◌-◌, ◌<◌, ◌^◌}
use native.Mathlib.Nat.{mod-lt, lt_of_le_of_lt}
use native.Mathlib.Omega.{arith}
use lib.Dec.{ltb, eqb, lit<}
use lib.IntN.{ℤ, pos, negsuc, ◌+ℤ◌, ◌-ℤ◌, ◌*ℤ◌}
use lib.Signed.{shr_z, mag_shr}
use mir.Syntax.{w64}
use mir.Val.{SFits}
use mir.Facts.{sfits_to_z}
use Rattle.faults.specs.Numbers.{bad_shift}
use Rattle.int64.specs.Int as I
use Rattle.int64.specs.Mask.{mask_of}
use Rattle.int64.specs.declared.Op as IntOp
use Rattle.int64.specs.declared.Op.TheVariants as IO
use Rattle.int64.proofs.Answers.{floor-is}
use Rattle.float.specs.declared.Op as FloatOp
use Rattle.float.specs.declared.Op.TheVariants as FO
use Rattle.insns.specs.declared.op.Bare.{Bare}
use Rattle.insns.specs.declared.op.Two.{Two}
use Rattle.insns.specs.declared.op.Slot.{Slot}
use Rattle.insns.specs.declared.op.Shift.{Shift}
use Rattle.insns.specs.declared.op.Arith.{Arith}
use Rattle.insns.specs.declared.op.Op.{Op}
use Rattle.decode.specs.Decode.{decode_of}
use Rattle.decode.proofs.Facts.{load-raw}
use Rattle.value.specs.Value.{Datum, nil, bool, int, float}
use Rattle.value.specs.Answer.{Answer, is, fault}
use Rattle.ops.specs.Arith.{from_int, arith_of, whole_of}
use Rattle.value.proofs.RoundTrip.{Holds}
use Rattle.effect.specs.Effect.{Effect, write, branch, next, halt, both, literal, mask, raw_of, inverted, effect_of}
use Rattle.effect.specs.Forms.{three_kind, arith_kind, shift_kind}
use Rattle.effect.proofs.EffectLaws.{three-form, shift-form, arith-form, if-form, jump-form, jump-imm-form}
use Rattle.machine.specs.Step.{Next, go, put, stop, settle_of, decoded_of, word_effect}
use Rattle.machine.proofs.Outcomes.{picked, settles}
use Rattle.ops.proofs.Closed.{Held, picks, exact, as_floats_lem, negates, binaries}

-- ---- an effect's answer

abbrev Fine : Effect → Type 0
Fine (write d r) = Held r
Fine (branch z r) = Unit {0}
Fine next = Unit {0}
Fine (halt n) = Unit {0}

inverts : (r : Answer) → Held (inverted r)
unfolding inverted
inverts r = negates r

boths : (k : ℕ) (x y : Answer) → Held x → Held y → Held (both k x y)
unfolding both
boths k (is x) (is y) h g = binaries k x y h.back g.back
boths k (is x) (fault n) h g = record { back = tt }
boths k (fault n) y h g = record { back = tt }

quarter : (z : ℤ) → SFits w64 z → Held (literal (shr_z z 4))
quarter z s = record { back = record { sfits = lt_of_le_of_lt (mag_shr z 4) s.sfits } }

raws : (z : ℤ) → SFits w64 z → Held (raw_of z)
unfolding raw_of
raws (pos n) s =
    picks (eqb n 1) (record { back = tt })
    (picks (eqb n 5) (record { back = tt })
    (picks (eqb n 9) (record { back = tt })
    (quarter (pos n) s)))
raws (negsuc n) s = quarter (negsuc n) s

masks : (lo len : ℕ) → Held (mask lo len)
unfolding mask_of
masks lo len = record { back = sfits_to_z {w = w64} {n = mask_of lo len} (record { fits = mod-lt (2 ^ lo * (2 ^ len - 1)) (lit< tt) }) }

-- a literal is no larger than an Int's result may be
sums-imm : (i : IntOp.Op) (f : FloatOp.Op) (v : Datum) (z : ℤ) → ((a : ℤ) → Held (from_int (I.operate i a z))) → Held (arith_of i f v (int z))
unfolding arith_of
sums-imm i f nil z h = as_floats_lem f nil (int z)
sums-imm i f (bool b) z h = as_floats_lem f (bool b) (int z)
sums-imm i f (int a) z h = h a
sums-imm i f (float p) z h = as_floats_lem f (float p) (int z)

ariths-imm : (k : Arith) (x : Answer) (z : ℤ) → Held (both (arith_kind k) x (literal z))
unfolding both I.operate
ariths-imm k (fault n) z = record { back = tt }
ariths-imm Arith.Plus (is v) z = sums-imm IO.Add FO.Add v z (λ a. exact (a +ℤ z))
ariths-imm Arith.Minus (is v) z = sums-imm IO.Sub FO.Sub v z (λ a. exact (a -ℤ z))
ariths-imm Arith.Times (is v) z = sums-imm IO.Mul FO.Mul v z (λ a. exact (a *ℤ z))

-- a shift by 64 or more is a fault, and any other amount is an Int
shl : (a : ℤ) (n : ℕ) → SFits w64 a → Held (from_int (I.operate IO.Shl a (pos n)))
unfolding I.operate I.shl from_int
shl a n s = by (ltb n 64)
  where
    by : (b : Bool) → Held (from_int (cond b (I.exact (a *ℤ pos (2 ^ n))) (I.fault bad_shift)))
    by true = exact (a *ℤ pos (2 ^ n))
    by false = record { back = tt }

shr : (a : ℤ) (n : ℕ) → SFits w64 a → Held (from_int (I.operate IO.Shr a (pos n)))
unfolding I.operate I.shr from_int
shr a n s = by (ltb n 64)
  where
    by : (b : Bool) → Held (from_int (cond b (I.number (I.floor a (2 ^ n))) (I.fault bad_shift)))
    by true = record { back = rw (← floor-is) (record { sfits = lt_of_le_of_lt (mag_shr a (2 ^ n)) s.sfits }) }
    by false = record { back = tt }

shifts-imm : (k : Shift) (x : Answer) (n : ℕ) → Held x → Held (both (shift_kind k) x (literal (pos n)))
unfolding both whole_of
shifts-imm k (fault m) n h = record { back = tt }
shifts-imm Shift.Left (is nil) n h = record { back = tt }
shifts-imm Shift.Left (is (bool b)) n h = record { back = tt }
shifts-imm Shift.Left (is (float p)) n h = record { back = tt }
shifts-imm Shift.Left (is (int a)) n h = shl a n h.back
shifts-imm Shift.Right (is nil) n h = record { back = tt }
shifts-imm Shift.Right (is (bool b)) n h = record { back = tt }
shifts-imm Shift.Right (is (float p)) n h = record { back = tt }
shifts-imm Shift.Right (is (int a)) n h = shr a n h.back

module _ (reg slot : ℕ → Answer) (hr : (r : ℕ) → Held (reg r)) (hs : (r : ℕ) → Held (slot r)) where
  fine : (w : ℕ) (i : Op) → decode_of w ≡ Some i → Fine (effect_of reg slot i)
  fine w (Op.Bare Bare.Panic) e = tt
  fine w (Op.Bare Bare.Breakpoint) e = tt
  fine w (Op.Bare Bare.Nop) e = tt
  fine w (Op.LoadImm40 d z) e = raws z.raw (record { sfits = omega (arith, (load-raw w d z e).small) })
  fine w (Op.Two Two.Mov d a) e = hr a
  fine w (Op.Two Two.Not d a) e = inverts (reg a)
  fine w (Op.Two Two.BitNot d a) e = tt
  fine w (Op.Two Two.CellSet d a) e = tt
  fine w (Op.Two Two.CellGet d a) e = tt
  fine w (Op.Two Two.ArrPush d a) e = tt
  fine w (Op.Two Two.BaClone d a) e = tt
  fine w (Op.Slot Slot.LoadConst d a) e = hs a
  fine w (Op.Slot Slot.GetGlobal d a) e = tt
  fine w (Op.Slot Slot.SetGlobal d a) e = tt
  fine w (Op.Slot Slot.ArrNew d a) e = tt
  fine w (Op.Three k d a b) e = rw three-form (picked Fine (eqb (three_kind k) 0) tt (boths (three_kind k) (reg a) (reg b) (hr a) (hr b)))
  fine w (Op.Shift k d a n) e = rw shift-form (shifts-imm k (reg a) n (hr a))
  fine w (Op.BitAndMask d a lo len) e = boths 8 (reg a) (mask lo len) (hr a) (masks lo len)
  fine w (Op.RshiftMask d a n lo len) e = boths 8 (both 12 (reg a) (literal (pos n))) (mask lo len) (shifts-imm Shift.Right (reg a) n (hr a)) (masks lo len)
  fine w (Op.Arith k d a z) e = rw arith-form (ariths-imm k (reg a) z.n)
  fine w (Op.ClosNew d fun num) e = tt
  fine w (Op.ClosSet clos src idx) e = tt
  fine w (Op.ClosGet d idx) e = tt
  fine w (Op.One k d) e = tt
  fine w (Op.Wide k d val class) e = tt
  fine w (Op.If k a z) e = rw if-form tt
  fine w (Op.Jump k a b z) e = rw jump-form tt
  fine w (Op.JumpImm k a n z) e = rw jump-imm-form tt
  fine w (Op.Jmp z) e = tt
  fine w (Op.Call k start argc cache) e = tt
  fine w (Op.CallHost host start argc) e = tt
  fine w (Op.ById k fun start argc) e = tt
  fine w (Op.CallMethodHost start argc tag cache) e = tt
  fine w (Op.RetImm40 z) e = tt

  fines : (w : ℕ) (d : Option Op) → decode_of w ≡ d → Fine (decoded_of reg slot d)
  fines w (Some i) e = fine w i e
  fines w None e = tt

  pub fine-word : (w : ℕ) → Fine (word_effect reg slot w)
  unfolding word_effect
  fine-word w = fines w (decode_of w) refl

-- ---- what is put

abbrev pub Put : ℕ → Next → Type 0
Put room (go p) = Unit {0}
Put room (put p d v) = (d < room) × Holds v
Put room (stop n) = Unit {0}

pub settled : (len room at : ℕ) (e : Effect) → Fine e → Put room (settle_of len room at e)
settled len room at e f = settles (Put room) (λ p. tt) (λ n. tt) len room at e (λ d v q l. (l, (rw q at f).back))
