-- A word aimed as a number is what the definition says. The word of a branch is the number of its opcode and its other operands, and above it the
-- displacement's field: made of the same branch with another displacement, only the field changes.
use Rattle.std.specs.Prelude.{Option, Some, None, Result, Ok, Err}
use Rattle.faults.specs.Numbers.{undecoded, not_branch, too_far}
use Rattle.faults.specs.declared.Fault.{Fault}
use mathlib.Core.Path.{◌≡◌, refl, sym, ap, subst, ◌∙◌}
use mathlib.Core.Bool.{Bool, true, false, ◌&&◌, and-true, and_assoc, cond}
use mathlib.Core.List.{List, [], ◌∷◌, ◌++◌}
use mathlib.Core.Logic.{◌⊎◌, inl, inr, ⊎_elim}
use Prim.Native.Nat.{ℕ, zero, suc, ◌+◌, ◌*◌, ◌-◌, ◌/◌, ◌%◌, ◌≤◌, ◌<◌, ◌^◌}
use native.Mathlib.Nat.{lt_of_lt_of_le, mul-add, mul_assoc, add_assoc, add-mul-mod_self_left, mod-eq_of_lt}
use native.Mathlib.Omega.{arith}
use borrow.Author.Tests.{le-ltb, lt-ltb, ltb-true, ltb-false, eq-eqb, ne_eqb}
use lib.Dec.{ltb, ltb→lt}
use lib.IntN.{ℤ}
use lib.ListN.{length, get_or, take, drop}
use lib.Seq.{get_or-take, get_or-drop}
use lib.Signed.{mag}
use mir.Syntax.{w32, w64}
use mir.Val.{Fits, SFits, to_z, of_z}
use Rattle.insns.specs.Fields.{Field, u, s, pack, all_fit, sizes, make, word_if}
use Rattle.insns.specs.Bits.{twos}
use Rattle.insns.specs.Insns.{forms, form_at, form_of, fields_of, made_of}
use Rattle.insns.specs.Opcodes.{op_of, if_op, jump_op, jump_imm_op}
use Rattle.insns.specs.declared.op.Cmp.{Cmp}
use Rattle.insns.specs.declared.op.Disp.{Disp}
use Rattle.insns.specs.declared.op.Imm16.{Imm16}
use Rattle.insns.specs.declared.op.Form.{Form}
use Rattle.insns.specs.declared.op.Op.{Op}
use Rattle.insns.specs.declared.op.Sense.{Sense}
use Rattle.insns.proofs.Packing.{join-lt, pack-lt}
use Rattle.insns.proofs.bits.Sign.{widened, twos-far}
use Rattle.insns.proofs.Table.{and-true as both_true, form-op}
use Rattle.decode.specs.Decode.{signed, decode_of, decode_as, whole}
use Rattle.decode.proofs.RoundTrip.{made-fits, made-decode}
use Rattle.decode.specs.Patch.{difference, is_branch, made_with, aimed_made, aimed_decoded, aim_word}
use Rattle.decode.specs.Aim.{reach_of, unreached, aimed_by, unaimed, Place, aim_field, branch_by}
use Rattle.decode.specs.declared.patch.Branch.{Branch}
use Rattle.decode.proofs.patch.Facts.{branch_by_lem}

-- ---- the field's new number

module _ (low place half : ℕ) (p : Place low place half) where
  word_fits : (v : ℕ) → v < 2 * half → low + place * v < 18446744073709551616
  word_fits v h = lt_of_lt_of_le (join-lt place (2 * half) p.below h) p.room

  pub sum_fits : (v : ℕ) → v < 2 * half → Fits w64 (low + place * v)
  sum_fits v h = record { fits = word_fits v h }

  pub product-fits : (v : ℕ) → v < 2 * half → Fits w64 (place * v)
  product-fits v h = record { fits = omega (arith, word_fits v h) }

module _ (low place half : ℕ) {r : Option Disp} where
  pub none : r ≡ None → Err too_far ≡ aim_field low place half r
  unfolding aim_field
  none e = rw e

  -- n is the displacement's number in the field, or past it
  module _ {disp : Disp} {n : ℕ} (e : r ≡ Some disp) (f : SFits w32 disp.by) (k : n ≡ twos half (to_z w64 (of_z w64 (to_z w32 (of_z w32 disp.by))))) where
    number : n ≡ twos half disp.by
    number = k ∙ ap (twos half) (widened tt f)

    pub in_field : n < 2 * half → Ok (low + place * n) ≡ aim_field low place half r
    unfolding aim_field
    in_field h = rw (e, ← number, lt-ltb n (2 * half) h)

    pub past-field : 2 * half ≤ n → Err too_far ≡ aim_field low place half r
    unfolding aim_field
    past-field h = rw (e, ← number, le-ltb n (2 * half) h)

-- ---- a field above others

pack-end : (fs : List Field) (m v : ℕ) → pack (fs ++ ((m, v) ∷ [])) ≡ pack fs + sizes fs * v
pack-end [] m v = omega arith
pack-end (f ∷ fs) m v = rw (pack-end fs m v, mul-add, mul_assoc, add_assoc)

fit-end : (fs : List Field) (m v : ℕ) → all_fit (fs ++ ((m, v) ∷ [])) ≡ (all_fit fs && ltb v m)
fit-end [] m v = and-true (ltb v m)
fit-end (f ∷ fs) m v = ap (λ (b : Bool). ltb f.1 f.0 && b) (fit-end fs m v) ∙ sym (and_assoc (ltb f.1 f.0) (all_fit fs) (ltb v m))

-- ---- a branch: its opcode, the fields below its displacement, and half of the numbers that the displacement's field holds

abbrev opcode : Branch → ℕ
opcode (Branch.If k val) = if_op k
opcode (Branch.Jump k a b) = jump_op k
opcode (Branch.JumpImm k a imm) = jump_imm_op k
opcode Branch.Jmp = 65

abbrev lows : Branch → List Field
lows (Branch.If k val) = u 16 val ∷ []
lows (Branch.Jump k a b) = u 16 a ∷ u 16 b ∷ []
lows (Branch.JumpImm k a imm) = u 16 a ∷ s 16 imm.n ∷ []
lows Branch.Jmp = []

abbrev half : Branch → ℕ
half (Branch.If k val) = 2 ^ 31
half (Branch.Jump k a b) = 2 ^ 23
half (Branch.JumpImm k a imm) = 2 ^ 23
half Branch.Jmp = 2 ^ 31

-- the number of all that stands below the field
abbrev low : Branch → ℕ
low b = opcode b + 256 * pack (lows b)

abbrev place : Branch → ℕ
place b = 256 * sizes (lows b)

made-is : (b : Branch) (disp : Disp) → made_of (branch_by b disp) ≡ make (opcode b) (lows b ++ ((2 * half b, twos (half b) disp.by) ∷ []))
made-is (Branch.If k val) disp = refl
made-is (Branch.Jump k a c) disp = refl
made-is (Branch.JumpImm k a imm) disp = refl
made-is Branch.Jmp disp = refl

opcode-lt : (b : Branch) → opcode b < 256
opcode-lt (Branch.If k val) = ltb→lt (if_op k) 256 (form-op (Form.If k)).1
opcode-lt (Branch.Jump k a c) = ltb→lt (jump_op k) 256 (form-op (Form.Jump k)).1
opcode-lt (Branch.JumpImm k a imm) = ltb→lt (jump_imm_op k) 256 (form-op (Form.JumpImm k)).1
opcode-lt Branch.Jmp = omega arith

-- the number of what is below the field and what is in it
joined : (b : Branch) (v : ℕ) → opcode b + 256 * (pack (lows b) + sizes (lows b) * v) ≡ low b + place b * v
joined b v = rw (mul-add 256 (pack (lows b)) (sizes (lows b) * v), mul_assoc 256 (sizes (lows b)) v, add_assoc (opcode b) (256 * pack (lows b)) (256 * (sizes (lows b) * v)))

-- the branch aimed by a displacement, or one that is too far
abbrev aimed_reach : Branch → Option Disp → Result ℕ Fault
aimed_reach b (Some disp) = aimed_made (made_of (branch_by b disp))
aimed_reach b None = Err too_far

reach-by : (b : Branch) (disp : Disp) (r : Option Disp) → aimed_by (Some (branch_by b disp)) r ≡ aimed_reach b r
reach-by b disp (Some to) = branch_by_lem b disp to.by
reach-by (Branch.If k val) disp None = refl
reach-by (Branch.Jump k a c) disp None = refl
reach-by (Branch.JumpImm k a imm) disp None = refl
reach-by Branch.Jmp disp None = refl

module _ (b : Branch) (fit : all_fit (lows b) ≡ true) where
  -- what its field does not hold, `make` refuses
  aimed : (r : Option Disp) → aim_field (low b) (place b) (half b) r ≡ aimed_reach b r
  unfolding aim_field word_if
  aimed (Some disp) =
      let v = twos (half b) disp.by in
      sym (ap aimed_made (made-is b disp) ∙ rw (fit-end (lows b) (2 * half b) v, fit, pack-end (lows b) (2 * half b) v, joined b v) (go (ltb v (2 * half b)) (low b + place b * v)))
    where
      go : (p : Bool) (x : ℕ) → aimed_made (cond p (Some (record { bits = x })) None) ≡ cond p (Ok x) (Err too_far)
      go true x = refl
      go false x = refl
  aimed None = refl

-- a word that decodes to the branch
module _ (w : ℕ) (b : Branch) (disp : Disp) (e : decode_of w ≡ Some (branch_by b disp)) where
  all : (all_fit (lows b ++ ((2 * half b, twos (half b) disp.by) ∷ [])) ≡ true) × (w ≡ opcode b + 256 * pack (lows b ++ ((2 * half b, twos (half b) disp.by) ∷ [])))
  all = made-fits (opcode b) (lows b ++ ((2 * half b, twos (half b) disp.by) ∷ [])) (record { bits = w }) (sym (made-is b disp) ∙ made-decode w (branch_by b disp) e)

  lows-fit : all_fit (lows b) ≡ true
  lows-fit = (both_true (all_fit (lows b)) _ (sym (fit-end (lows b) (2 * half b) (twos (half b) disp.by)) ∙ all.0)).0

  low-is : w % place b ≡ low b
  low-is =
      let v = twos (half b) disp.by in
      let k : w ≡ low b + place b * v = all.1 ∙ ap (λ (x : ℕ). opcode b + 256 * x) (pack-end (lows b) (2 * half b) v) ∙ joined b v in
      ap (λ (x : ℕ). x % place b) k ∙ add-mul-mod_self_left (low b) (place b) v ∙ mod-eq_of_lt (join-lt 256 (sizes (lows b)) (opcode-lt b) (pack-lt (lows b) lows-fit))

  known : (r : Option Disp) → aim_field (w % place b) (place b) (half b) r ≡ aimed_by (decode_of w) r
  known r = ap (λ (x : ℕ). aim_field x (place b) (half b) r) low-is ∙ aimed b lows-fit r ∙ sym (ap (λ (d : Option Op). aimed_by d r) e ∙ reach-by b disp r)

-- ---- the opcodes of the branches, from if_true to jmp

as-form : (w : ℕ) (f : Form) → form_at (w % 256) ≡ f → decode_of w ≡ decode_as f (w / 256)
unfolding decode_of
as-form w f e = ap (λ (x : Form). decode_as x (w / 256)) e

if-form : (op : ℕ) → 43 ≤ op → op ≤ 44 → (form_at op ≡ Form.If Sense.Yes) ⊎ (form_at op ≡ Form.If Sense.No)
if-form op l h = go (ltb op 44) refl
  where
    go : (b : Bool) → ltb op 44 ≡ b → (form_at op ≡ Form.If Sense.Yes) ⊎ (form_at op ≡ Form.If Sense.No)
    go true e = let k : op < 44 = ltb-true _ _ e in inl (ap form_at (let q : op ≡ 43 = omega arith in q))
    go false e = let k : 44 ≤ op = ltb-false _ _ e in inr (ap form_at (let q : op ≡ 44 = omega arith in q))

data Compares : Form → Type 0 where
  two : (k : Cmp) → Compares (Form.Jump k)
  one : (k : Cmp) → Compares (Form.JumpImm k)

ruleset compares = (two, one)

abbrev AllCompare : List Form → Type 0
AllCompare [] = Unit {0}
AllCompare (f ∷ fs) = Compares f × AllCompare fs

all-compare : (fs : List Form) (j : ℕ) → AllCompare fs → j < length fs → Compares (get_or fs j Form.Unknown)
all-compare [] j a l = absurd (let r : ⊥ = omega arith in r)
all-compare (f ∷ fs) zero a l = a.0
all-compare (f ∷ fs) (suc j) a l = all-compare fs j a.1 (let k : j < length fs = omega arith in k)

jump-form : (op : ℕ) → 45 ≤ op → op ≤ 64 → Compares (form_at op)
jump-form op l h =
    let j : op - 45 < 20 = omega arith in
    let e : 45 + (op - 45) ≡ op = omega arith in
    rw (← e, ← get_or-drop 45 forms (op - 45) Form.Unknown, ← get_or-take 20 (drop 45 forms) (op - 45) Form.Unknown j) (all-compare (take 20 (drop 45 forms)) (op - 45) (search compares) j)

-- nothing above the fields, or something
whole_is : (rest : ℕ) (i : Op) → rest ≡ 0 → whole rest (Some i) ≡ Some i
unfolding whole
whole_is rest i e = ap (λ (b : Bool). cond b (Some i) None) (eq-eqb rest 0 e)

whole-not : (rest : ℕ) (i : Op) → (rest ≡ 0 → ⊥) → whole rest (Some i) ≡ None
unfolding whole
whole-not rest i e = ap (λ (b : Bool). cond b (Some i) None) (ne_eqb rest 0 e)

no-op : (r : Option Disp) → Err undecoded ≡ aimed_by None r
no-op (Some disp) = refl
no-op None = refl

bad : (w : ℕ) (r : Option Disp) → decode_of w ≡ None → Err undecoded ≡ aimed_by (decode_of w) r
bad w r e = no-op r ∙ ap (λ (d : Option Op). aimed_by d r) (sym e)

-- the operands of a branch, as they are read
abbrev imm16 : ℕ → Imm16
imm16 n = record { n = signed 32768 n }

abbrev disp_in : ℕ → ℕ → Disp
disp_in h n = record { by = signed h n }

-- a word of a branch's opcode: it is the branch where nothing stands above its fields
if-is : (w : ℕ) (k : Sense) → form_at (w % 256) ≡ Form.If k → w / 16777216 < 4294967296 → decode_of w ≡ Some (branch_by (Branch.If k (w / 256 % 65536)) (disp_in 2147483648 (w / 256 / 65536 % 4294967296)))
if-is w k f h = as-form w (Form.If k) f ∙ whole_is (w / 256 / 65536 / 4294967296) _ (omega arith)

if-bad : (w : ℕ) (k : Sense) → form_at (w % 256) ≡ Form.If k → 4294967296 ≤ w / 16777216 → decode_of w ≡ None
if-bad w k f h = as-form w (Form.If k) f ∙ whole-not (w / 256 / 65536 / 4294967296) _ (λ e. omega arith)

-- ---- a word of each opcode, aimed

module _ (w : ℕ) (r : Option Disp) where
  pub if-aimed : 43 ≤ w % 256 → w % 256 ≤ 44 → w / 16777216 < 4294967296 → {a : Result ℕ Fault} → a ≡ aim_field (w % 16777216) 16777216 2147483648 r → a ≡ aimed_by (decode_of w) r
  if-aimed l h n q = q ∙ ⊎_elim (λ f. known w (Branch.If Sense.Yes _) _ (if-is w Sense.Yes f n) r) (λ f. known w (Branch.If Sense.No _) _ (if-is w Sense.No f n) r) (if-form (w % 256) l h)

  pub if-stray : 43 ≤ w % 256 → w % 256 ≤ 44 → 4294967296 ≤ w / 16777216 → Err undecoded ≡ aimed_by (decode_of w) r
  if-stray l h n = ⊎_elim (λ f. bad w r (if-bad w Sense.Yes f n)) (λ f. bad w r (if-bad w Sense.No f n)) (if-form (w % 256) l h)

  compared : w < 18446744073709551616 → {f : Form} → form_at (w % 256) ≡ f → Compares f → aim_field (w % 1099511627776) 1099511627776 8388608 r ≡ aimed_by (decode_of w) r
  compared n e (two k) = known w (Branch.Jump k (w / 256 % 65536) (w / 256 / 65536 % 65536)) (disp_in 8388608 (w / 256 / 65536 / 65536 % 16777216)) (as-form w (Form.Jump k) e ∙ whole_is (w / 256 / 65536 / 65536 / 16777216) _ (omega arith)) r
  compared n e (one k) = known w (Branch.JumpImm k (w / 256 % 65536) (imm16 (w / 256 / 65536 % 65536))) (disp_in 8388608 (w / 256 / 65536 / 65536 % 16777216)) (as-form w (Form.JumpImm k) e ∙ whole_is (w / 256 / 65536 / 65536 / 16777216) _ (omega arith)) r

  pub jump-aimed : 44 < w % 256 → w % 256 ≤ 64 → w < 18446744073709551616 → {a : Result ℕ Fault} → a ≡ aim_field (w % 1099511627776) 1099511627776 8388608 r → a ≡ aimed_by (decode_of w) r
  jump-aimed l h n q = q ∙ compared n refl (jump-form (w % 256) l h)

  jmp-form : 64 < w % 256 → w % 256 ≤ 65 → form_at (w % 256) ≡ Form.Jmp
  jmp-form l h = ap form_at (let q : w % 256 ≡ 65 = omega arith in q)

  pub jmp-aimed : 64 < w % 256 → w % 256 ≤ 65 → w / 256 < 4294967296 → {a : Result ℕ Fault} → a ≡ aim_field (w % 256) 256 2147483648 r → a ≡ aimed_by (decode_of w) r
  jmp-aimed l h n q = q ∙ known w Branch.Jmp (disp_in 2147483648 (w / 256 % 4294967296)) (as-form w Form.Jmp (jmp-form l h) ∙ whole_is (w / 256 / 4294967296) _ (omega arith)) r

  pub jmp-stray : 64 < w % 256 → w % 256 ≤ 65 → 4294967296 ≤ w / 256 → Err undecoded ≡ aimed_by (decode_of w) r
  jmp-stray l h n = bad w r (as-form w Form.Jmp (jmp-form l h) ∙ whole-not (w / 256 / 4294967296) _ (λ e. omega arith))

-- ---- too far for 32 bits, too far for every branch

and-false : (b : Bool) → (b && false) ≡ false
and-false true = refl
and-false false = refl

past : (op : ℕ) (fs : List Field) (h : ℕ) (z : ℤ) → h ≤ mag z → Err too_far ≡ aimed_made (make op (fs ++ ((2 * h, twos h z) ∷ [])))
unfolding word_if
past op fs h z l =
    let n : ltb (twos h z) (2 * h) ≡ false = ap (λ (v : ℕ). ltb v (2 * h)) (twos-far h z l) ∙ le-ltb (2 * h) (2 * h) (omega arith) in
    let f : all_fit (fs ++ ((2 * h, twos h z) ∷ [])) ≡ false = fit-end fs (2 * h) (twos h z) ∙ ap (λ (b : Bool). all_fit fs && b) n ∙ and-false (all_fit fs) in
    sym (ap (λ (b : Bool). aimed_made (cond b (Some (record { bits = op + 256 * pack (fs ++ ((2 * h, twos h z) ∷ [])) })) None)) f)

far : (i : Op) (z : ℤ) → 2147483648 ≤ mag z → unreached (Some i) ≡ aimed_decoded (Some i) z
far (Op.Bare k) z l = refl
far (Op.LoadImm40 dst imm) z l = refl
far (Op.Two k dst src) z l = refl
far (Op.Slot k dst slot) z l = refl
far (Op.Three k dst a b) z l = refl
far (Op.Shift k dst a shift) z l = refl
far (Op.BitAndMask dst a lo len) z l = refl
far (Op.RshiftMask dst a shift lo len) z l = refl
far (Op.Arith k dst a imm) z l = refl
far (Op.ClosNew dst fun num) z l = refl
far (Op.ClosSet clos src idx) z l = refl
far (Op.ClosGet dst idx) z l = refl
far (Op.One k dst) z l = refl
far (Op.Wide k dst val class) z l = refl
far (Op.If k val disp) z l = past (if_op k) (u 16 val ∷ []) 2147483648 z l
far (Op.Jump k a b disp) z l = past (jump_op k) (u 16 a ∷ u 16 b ∷ []) 8388608 z (omega arith)
far (Op.JumpImm k a imm disp) z l = past (jump_imm_op k) (u 16 a ∷ s 16 imm.n ∷ []) 8388608 z (omega arith)
far (Op.Jmp disp) z l = past 65 [] 2147483648 z l
far (Op.Call k start argc cache) z l = refl
far (Op.CallHost host start argc) z l = refl
far (Op.ById k fun start argc) z l = refl
far (Op.CallMethodHost start argc tag cache) z l = refl
far (Op.RetImm40 imm) z l = refl

far-all : (d : Option Op) (z : ℤ) → 2147483648 ≤ mag z → unreached d ≡ aimed_decoded d z
far-all (Some i) z l = far i z l
far-all None z l = refl

reached : (d : Option Op) (at t : ℕ) → aimed_by d (reach_of at t) ≡ aimed_decoded d (difference at t)
unfolding reach_of
reached d at t = go (ltb (mag (difference at t)) 2147483648) refl
  where
    go : (b : Bool) → ltb (mag (difference at t)) 2147483648 ≡ b → aimed_by d (cond b (Some (record { by = difference at t })) None) ≡ aimed_decoded d (difference at t)
    go true e = refl
    go false e = far-all d (difference at t) (ltb-false _ _ e)

pub aimed-is : (w at t : ℕ) {r : Option Disp} {a : Result ℕ Fault} → r ≡ reach_of at t → a ≡ aimed_by (decode_of w) r → a ≡ aim_word w at t
unfolding aim_word
aimed-is w at t e q = q ∙ ap (aimed_by (decode_of w)) e ∙ reached (decode_of w) at t

-- ---- any other opcode

-- the opcode of a word that decodes
opcode-is : (w : ℕ) (i : Op) → decode_of w ≡ Some i → w % 256 ≡ op_of (form_of i)
opcode-is w i e =
    let h : w ≡ op_of (form_of i) + 256 * pack (fields_of i) = (made-fits (op_of (form_of i)) (fields_of i) (record { bits = w }) (made-decode w i e)).1 in
    let l : op_of (form_of i) < 256 = ltb→lt (op_of (form_of i)) 256 (form-op (form_of i)).1 in
    omega arith

abbrev Among : ℕ → Type 0
Among op = (43 ≤ op) × (op ≤ 65)

if-among : (k : Sense) → Among (if_op k)
if-among Sense.Yes = (omega arith, omega arith)
if-among Sense.No = (omega arith, omega arith)

cmp-among : (k : Cmp) → Among (jump_op k) × Among (jump_imm_op k)
cmp-among Cmp.Eq = ((omega arith, omega arith), (omega arith, omega arith))
cmp-among Cmp.Ne = ((omega arith, omega arith), (omega arith, omega arith))
cmp-among Cmp.Lt = ((omega arith, omega arith), (omega arith, omega arith))
cmp-among Cmp.Le = ((omega arith, omega arith), (omega arith, omega arith))
cmp-among Cmp.Gt = ((omega arith, omega arith), (omega arith, omega arith))
cmp-among Cmp.Ge = ((omega arith, omega arith), (omega arith, omega arith))
cmp-among Cmp.Nlt = ((omega arith, omega arith), (omega arith, omega arith))
cmp-among Cmp.Nle = ((omega arith, omega arith), (omega arith, omega arith))
cmp-among Cmp.Ngt = ((omega arith, omega arith), (omega arith, omega arith))
cmp-among Cmp.Nge = ((omega arith, omega arith), (omega arith, omega arith))

no-branch : (i : Op) → (Among (op_of (form_of i)) → ⊥) → is_branch i ≡ false
no-branch (Op.Bare k) n = refl
no-branch (Op.LoadImm40 dst imm) n = refl
no-branch (Op.Two k dst src) n = refl
no-branch (Op.Slot k dst slot) n = refl
no-branch (Op.Three k dst a b) n = refl
no-branch (Op.Shift k dst a shift) n = refl
no-branch (Op.BitAndMask dst a lo len) n = refl
no-branch (Op.RshiftMask dst a shift lo len) n = refl
no-branch (Op.Arith k dst a imm) n = refl
no-branch (Op.ClosNew dst fun num) n = refl
no-branch (Op.ClosSet clos src idx) n = refl
no-branch (Op.ClosGet dst idx) n = refl
no-branch (Op.One k dst) n = refl
no-branch (Op.Wide k dst val class) n = refl
no-branch (Op.If k val disp) n = absurd (n (if-among k))
no-branch (Op.Jump k a b disp) n = absurd (n (cmp-among k).0)
no-branch (Op.JumpImm k a imm disp) n = absurd (n (cmp-among k).1)
no-branch (Op.Jmp disp) n = absurd (n (omega arith, omega arith))
no-branch (Op.Call k start argc cache) n = refl
no-branch (Op.CallHost host start argc) n = refl
no-branch (Op.ById k fun start argc) n = refl
no-branch (Op.CallMethodHost start argc tag cache) n = refl
no-branch (Op.RetImm40 imm) n = refl

-- what the word decodes to, as an arm of a `match` knows it
pub not-one : (w : ℕ) {d : Option Op} {i : Op} → d ≡ decode_of w → d ≡ Some i → Err not_branch ≡ unaimed (decode_of w)
not-one w q k = ap unaimed (sym k ∙ q)

pub not-any : (w : ℕ) {d : Option Op} → d ≡ decode_of w → d ≡ None → Err undecoded ≡ unaimed (decode_of w)
not-any w q k = ap unaimed (sym k ∙ q)

pub ruleset unaimings = (not-one, not-any)

-- a word that is no branch's is not aimed
other : (w at t : ℕ) → (Among (w % 256) → ⊥) → unaimed (decode_of w) ≡ aim_word w at t
unfolding aim_word
other w at t n = go (decode_of w) refl
  where
    go : (d : Option Op) → decode_of w ≡ d → unaimed d ≡ aimed_decoded d (difference at t)
    go (Some i) e =
        sym (ap (λ (b : Bool). cond b (aimed_made (made_with i (difference at t))) (Err not_branch)) (no-branch i (subst (λ (op : ℕ). Among op → ⊥) (opcode-is w i e) n)))
    go None e = refl

module _ (w at t : ℕ) {r : Result ℕ Fault} (q : r ≡ unaimed (decode_of w)) where
  pub below : w % 256 < 43 → r ≡ aim_word w at t
  below l = q ∙ other w at t (λ h. let a = h.0 in let z : ⊥ = omega arith in z)

  pub above : 65 < w % 256 → r ≡ aim_word w at t
  above l = q ∙ other w at t (λ h. let a = h.1 in let z : ⊥ = omega arith in z)

pub ruleset opcodes = (if-aimed, if-stray, jump-aimed, jmp-aimed, jmp-stray, aimed-is, below, above)
