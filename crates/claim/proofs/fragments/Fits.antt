-- Which instructions fit their fields, so that they have a word and the word decodes to them again; and that these are of the opcodes that are emitted.
use Rattle.std.specs.Prelude.{Some}
use mathlib.Core.Path.{◌≡◌, refl}
use mathlib.Core.Bool.{true}
use mathlib.Core.List.{List, [], ◌∷◌, ◌++◌, map}
use Prim.Native.Nat.{ℕ, suc, ◌+◌, ◌-◌, ◌*◌, ◌^◌, ◌≤◌, ◌<◌}
use native.Mathlib.Omega.{arith as linear}
use native.Mathlib.Nat.{mul-mod_right}
use lib.IntN.{ℤ, pos, negsuc}
use lib.Signed.{mag}
use borrow.Author.Tests.{lt-ltb, ltb-true}
use Rattle.faults.specs.Limits.{max_registers}
use Rattle.insns.specs.declared.op.Op.{Op}
use Rattle.insns.specs.declared.op.Three.{Three}
use Rattle.insns.specs.declared.op.Shift.{Shift}
use Rattle.insns.specs.declared.op.Arith.{Arith}
use Rattle.insns.specs.declared.op.Sense.{Sense}
use Rattle.insns.specs.declared.op.Cmp.{Cmp}
use Rattle.insns.specs.declared.op.Imm40.{Imm40}
use Rattle.insns.specs.Fields.{Field, raw_bits, raw, pack, all_fit, word_if}
use Rattle.insns.specs.Bits.{twos, is_raw}
use Rattle.insns.specs.Insns.{form_of, fields_of, made_of}
use Rattle.insns.specs.Opcodes.{three_op, shift_op, arith_op, if_op, jump_op, jump_imm_op, op_of}
use Rattle.table.specs.Tree as Tree
use Rattle.decode.specs.Decode.{decode_of}
use Rattle.decode.specs.declared.patch.Branch.{Branch}
use Rattle.fold.specs.declared.Tail.{Tail}
use Rattle.fold.specs.Literal.{fits_imm40}
use Rattle.fold.specs.Fold.{tail_op}
use Rattle.fold.specs.Opcodes.{three_of}
use Rattle.emit.specs.Steps.{load_op, raw_nil, raw_true, raw_false, raw_int}
use Rattle.decode.proofs.RoundTrip.{decode-made}
use Rattle.claim.specs.Emitted.{is_emitted, opcode_of}
use Rattle.claim.proofs.fragments.Frag.{const_op, mov_op, aimed}

-- ---- words

-- the word of an instruction that fits
unfoldable pub word : Op → ℕ
word i = op_of (form_of i) + 256 * pack (fields_of i)

abbrev pub words_of : List Op → List ℕ
words_of is = map word is

pub record Fits (i : Op) : Type 0 where
  pub all : all_fit (fields_of i) ≡ true
  pub emitted : is_emitted (opcode_of i) ≡ true

pub made : {i : Op} → Fits i → made_of i ≡ Some (record { bits = word i })
unfolding word word_if
made h = rw h.all refl

pub reads : {i : Op} → Fits i → decode_of (word i) ≡ Some i
reads {i} h = decode-made i (record { bits = word i }) (made h)

abbrev pub AllFit : List Op → Type 0
AllFit [] = Unit {0}
AllFit (i ∷ is) = Fits i × AllFit is

pub all_append : (F G : List Op) → AllFit F → AllFit G → AllFit (F ++ G)
all_append [] G h g = g
all_append (i ∷ is) G h g = (h.0, all_append is G h.1 g)

-- ---- fields

field : (m v : ℕ) (fs : List Field) → v < m → all_fit fs ≡ true → all_fit ((m, v) ∷ fs) ≡ true
field m v fs h e = rw (lt-ltb v m h) e

twos-low : (h : ℕ) (z : ℤ) → mag z < h → twos h z < 2 * h
unfolding twos
twos-low h (pos n) e = rw (lt-ltb n h e) (omega linear)
twos-low h (negsuc n) e = rw (lt-ltb n h e) (omega linear)

pub one-fits : {v : ℕ} → v < max_registers → v < 2 ^ 16
one-fits h = omega linear

-- ---- raw immediates

raw-low : (z : ℤ) (b : ℕ) → twos (2 ^ 39) z ≡ b → b < 2 ^ 40 → is_raw b ≡ true → raw_bits z < 2 ^ 40
unfolding raw_bits
raw-low z b e h r = rw (e, r) h

fourth : (n : ℕ) → is_raw (4 * n) ≡ true
unfolding is_raw
fourth n = rw (mul-mod_right 4 n) refl

int-raw : (z : ℤ) → fits_imm40 z ≡ true → raw_bits (raw_int z).raw < 2 ^ 40
unfolding twos
int-raw (pos n) h =
    let small : n < 2 ^ 37 = ltb-true n (2 ^ 37) h in
    raw-low (pos (4 * n)) (4 * n) (rw (lt-ltb (4 * n) (2 ^ 39) (omega linear)) refl) (omega linear) (fourth n)
int-raw (negsuc n) h =
    let small : n < 2 ^ 37 = ltb-true n (2 ^ 37) h in
    let e : 4 * suc n ≡ suc (4 * n + 3) = omega linear in
    let f : 2 ^ 40 - suc (4 * n + 3) ≡ 4 * (2 ^ 38 - suc n) = omega linear in
    rw e
    (raw-low (negsuc (4 * n + 3)) (4 * (2 ^ 38 - suc n)) (rw (lt-ltb (4 * n + 3) (2 ^ 39) (omega linear)) f) (omega linear) (fourth (2 ^ 38 - suc n)))

-- ---- opcodes

pub three-emitted : (o : Tree.Arith) → is_emitted (three_op (three_of o)) ≡ true
three-emitted Tree.bit_and = refl
three-emitted Tree.bit_or = refl
three-emitted Tree.bit_xor = refl
three-emitted Tree.lshift = refl
three-emitted Tree.rshift = refl
three-emitted Tree.add = refl
three-emitted Tree.sub = refl
three-emitted Tree.mul = refl
three-emitted Tree.div = refl
three-emitted Tree.mod' = refl

shift-emitted : (o : Shift) → is_emitted (shift_op o) ≡ true
shift-emitted Shift.Left = refl
shift-emitted Shift.Right = refl

arith-emitted : (o : Arith) → is_emitted (arith_op o) ≡ true
arith-emitted Arith.Plus = refl
arith-emitted Arith.Minus = refl
arith-emitted Arith.Times = refl

if-emitted : (s : Sense) → is_emitted (if_op s) ≡ true
if-emitted Sense.Yes = refl
if-emitted Sense.No = refl

jump-emitted : (c : Cmp) → (is_emitted (jump_op c) ≡ true) × (is_emitted (jump_imm_op c) ≡ true)
jump-emitted Cmp.Eq = (refl, refl)
jump-emitted Cmp.Ne = (refl, refl)
jump-emitted Cmp.Lt = (refl, refl)
jump-emitted Cmp.Le = (refl, refl)
jump-emitted Cmp.Gt = (refl, refl)
jump-emitted Cmp.Ge = (refl, refl)
jump-emitted Cmp.Nlt = (refl, refl)
jump-emitted Cmp.Nle = (refl, refl)
jump-emitted Cmp.Ngt = (refl, refl)
jump-emitted Cmp.Nge = (refl, refl)

-- ---- instructions

pub load_fits : (z : Imm40) (d : ℕ) → raw_bits z.raw < 2 ^ 40 → d < max_registers → Fits (load_op z d)
load_fits z d h hd = record { all = field (2 ^ 16) d (raw z.raw ∷ []) (omega linear) (field (2 ^ 40) (raw_bits z.raw) [] h refl); emitted = refl }

pub nil-fits : (d : ℕ) → d < max_registers → Fits (load_op raw_nil d)
unfolding raw_bits twos is_raw
nil-fits d = load_fits raw_nil d (omega linear)

pub true-fits : (d : ℕ) → d < max_registers → Fits (load_op raw_true d)
unfolding raw_bits twos is_raw
true-fits d = load_fits raw_true d (omega linear)

pub false-fits : (d : ℕ) → d < max_registers → Fits (load_op raw_false d)
unfolding raw_bits twos is_raw
false-fits d = load_fits raw_false d (omega linear)

pub int-fits : (z : ℤ) (d : ℕ) → fits_imm40 z ≡ true → d < max_registers → Fits (load_op (raw_int z) d)
int-fits z d h = load_fits (raw_int z) d (int-raw z h)

pub const_fits : (k d : ℕ) → k < 2 ^ 32 → d < max_registers → Fits (const_op k d)
const_fits k d h hd = record { all = field (2 ^ 16) d ((2 ^ 32, k) ∷ []) (omega linear) (field (2 ^ 32) k [] h refl); emitted = refl }

pub mov-fits : (d r : ℕ) → d < max_registers → r < max_registers → Fits (mov_op d r)
mov-fits d r hd hr = record { all = field (2 ^ 16) d ((2 ^ 16, r) ∷ []) (omega linear) (field (2 ^ 16) r [] (omega linear) refl); emitted = refl }

pub three-fits : (o : Three) → is_emitted (three_op o) ≡ true → (d a b : ℕ) → d < max_registers → a < max_registers → b < max_registers → Fits (Op.Three o d a b)
three-fits o is d a b hd ha hb =
    record {
      all =
          field (2 ^ 16) d ((2 ^ 16, a) ∷ (2 ^ 16, b) ∷ []) (omega linear)
          (field (2 ^ 16) a ((2 ^ 16, b) ∷ []) (omega linear) (field (2 ^ 16) b [] (omega linear) refl));
      emitted = is;
    }

-- what a fold brings with it fits
abbrev pub TailFits : Tail → Type 0
TailFits Tail.Not = Unit {0}
TailFits (Tail.Imm o z) = mag z.n < 32768
TailFits (Tail.Shift o k) = k < 64
TailFits (Tail.Mask lo len) = lo + len ≤ 62
TailFits (Tail.ShiftMask k lo len) = (k < 64) × (lo + len ≤ 62)

pub tail-fits : (tail : Tail) → TailFits tail → (d r : ℕ) → d < max_registers → r < max_registers → Fits (tail_op tail d r)
tail-fits Tail.Not h d r hd hr = record { all = field (2 ^ 16) d ((2 ^ 16, r) ∷ []) (omega linear) (field (2 ^ 16) r [] (omega linear) refl); emitted = refl }
tail-fits (Tail.Imm o z) h d r hd hr =
    let t = twos (2 ^ 15) z.n in
    record {
      all =
          field (2 ^ 16) d ((2 ^ 16, r) ∷ (2 ^ 16, t) ∷ []) (omega linear)
          (field (2 ^ 16) r ((2 ^ 16, t) ∷ []) (omega linear) (field (2 ^ 16) t [] (omega (linear, twos-low (2 ^ 15) z.n h)) refl));
      emitted = arith-emitted o;
    }
tail-fits (Tail.Shift o k) h d r hd hr =
    record {
      all =
          field (2 ^ 16) d ((2 ^ 16, r) ∷ (2 ^ 6, k) ∷ []) (omega linear)
          (field (2 ^ 16) r ((2 ^ 6, k) ∷ []) (omega linear) (field (2 ^ 6) k [] (omega linear) refl));
      emitted = shift-emitted o;
    }
tail-fits (Tail.Mask lo len) h d r hd hr =
    record {
      all =
          field (2 ^ 16) d ((2 ^ 16, r) ∷ (2 ^ 6, lo) ∷ (2 ^ 6, len) ∷ []) (omega linear)
          (field (2 ^ 16) r ((2 ^ 6, lo) ∷ (2 ^ 6, len) ∷ []) (omega linear)
          (field (2 ^ 6) lo ((2 ^ 6, len) ∷ []) (omega linear) (field (2 ^ 6) len [] (omega linear) refl)));
      emitted = refl;
    }
tail-fits (Tail.ShiftMask k lo len) h d r hd hr =
    record {
      all =
          field (2 ^ 16) d ((2 ^ 16, r) ∷ (2 ^ 6, k) ∷ (2 ^ 6, lo) ∷ (2 ^ 6, len) ∷ []) (omega linear)
          (field (2 ^ 16) r ((2 ^ 6, k) ∷ (2 ^ 6, lo) ∷ (2 ^ 6, len) ∷ []) (omega linear)
          (field (2 ^ 6) k ((2 ^ 6, lo) ∷ (2 ^ 6, len) ∷ []) (omega (linear, h.0))
          (field (2 ^ 6) lo ((2 ^ 6, len) ∷ []) (omega (linear, h.1)) (field (2 ^ 6) len [] (omega (linear, h.1)) refl))));
      emitted = refl;
    }

-- ---- branches, of a displacement that 24 bits hold

abbrev pub far : ℕ
far = 2 ^ 23

abbrev pub BranchFits : Branch → Type 0
BranchFits (Branch.If s r) = r < max_registers
BranchFits (Branch.Jump c a b) = (a < max_registers) × (b < max_registers)
BranchFits (Branch.JumpImm c r z) = (r < max_registers) × (mag z.n < 32768)
BranchFits Branch.Jmp = Unit {0}

pub branch_fits : (b : Branch) → BranchFits b → (k : ℕ) → k < far → Fits (aimed b k)
branch_fits (Branch.If s r) h k hk =
    let t = twos (2 ^ 31) (pos k) in
    record { all = field (2 ^ 16) r ((2 ^ 32, t) ∷ []) (omega linear) (field (2 ^ 32) t [] (omega (linear, twos-low (2 ^ 31) (pos k) (omega linear))) refl); emitted = if-emitted s }
branch_fits (Branch.Jump c a b) h k hk =
    let t = twos (2 ^ 23) (pos k) in
    record {
      all =
          field (2 ^ 16) a ((2 ^ 16, b) ∷ (2 ^ 24, t) ∷ []) (omega (linear, h.0))
          (field (2 ^ 16) b ((2 ^ 24, t) ∷ []) (omega (linear, h.1)) (field (2 ^ 24) t [] (omega (linear, twos-low (2 ^ 23) (pos k) hk)) refl));
      emitted = (jump-emitted c).0;
    }
branch_fits (Branch.JumpImm c r z) h k hk =
    let t = twos (2 ^ 23) (pos k) in
    let i = twos (2 ^ 15) z.n in
    record {
      all =
          field (2 ^ 16) r ((2 ^ 16, i) ∷ (2 ^ 24, t) ∷ []) (omega (linear, h.0))
          (field (2 ^ 16) i ((2 ^ 24, t) ∷ []) (omega (linear, twos-low (2 ^ 15) z.n h.1))
          (field (2 ^ 24) t [] (omega (linear, twos-low (2 ^ 23) (pos k) hk)) refl));
      emitted = (jump-emitted c).1;
    }
branch_fits Branch.Jmp h k hk =
    let t = twos (2 ^ 31) (pos k) in
    record { all = field (2 ^ 32) t [] (omega (linear, twos-low (2 ^ 31) (pos k) (omega linear))) refl; emitted = refl }
