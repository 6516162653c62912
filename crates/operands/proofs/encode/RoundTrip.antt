-- A word that decodes, taken apart into numbers, is made of them again; and what is made of numbers decodes to them.
use Rattle.std.specs.Prelude.{Option, Some, None}
use mathlib.Core.Path.{◌≡◌, refl, sym, ap, subst, ◌∙◌}
use mathlib.Core.Bool.{Bool, true, ◌&&◌, cond}
use mathlib.Core.List.{List, [], ◌∷◌}
use Prim.Native.Nat.{ℕ, zero, suc, ◌+◌, ◌-◌, ◌*◌, ◌≤◌, ◌<◌, ◌^◌}
use native.Mathlib.Nat.{pow-le-pow_right}
use native.Mathlib.Omega.{arith}
use native.Mathlib.Decide.{dec_lt}
use borrow.Author.Tests.{lt-ltb, leb-true}
use lib.Dec.{ltb, leb}
use lib.IntN.{ℤ}
use lib.ListN.{length, get_or, get_or-eq_default}
use lib.Signed.{mag}
use mir.Syntax.{w64}
use mir.Val.{Fits, to_z, of_z}
use mir.ValLaws.{of_z-to_z}
use Rattle.insns.specs.Fields.{Width, bits, Operand, Operands, Field, bits_in, fields, pack, all_fit, make, word_if, made_number}
use Rattle.insns.specs.Bits.{twos}
use Rattle.insns.specs.Insns.{form_at, widths, form_of, operands_of, fields_of, made_of}
use Rattle.insns.specs.Opcodes.{op_of}
use Rattle.insns.specs.declared.Insn.{Insn}
use Rattle.insns.specs.declared.op.Form.{Form}
use Rattle.insns.specs.declared.op.Op.{Op}
use Rattle.insns.proofs.bits.Sign.{back}
use Rattle.insns.proofs.Table.{and-true, form-op, op-form, past}
use Rattle.decode.specs.Decode.{op_from, decode_of}
use Rattle.decode.proofs.Sign.{signed-mag}
use Rattle.decode.proofs.RoundTrip.{head-fits, in_halves, signed-twos, raw-fits, op-again, from-op, made-fits, made-decode, decode-made}
use Rattle.decode.proofs.Facts.{decoded-fits}
use Rattle.operands.specs.OfOp.{plain, pattern, patterns, padded, plain_op}
use Rattle.operands.specs.Encode.{given, fields_from, encode_of}
use Rattle.operands.specs.declared.of_op.PlainOp.{PlainOp}
use Rattle.operands.proofs.encode.Laws.{narrow, at-most-five, encode-past}

-- ---- an operand and its pattern

-- a signed operand that fits its field is read back from its pattern
signed-kept : (h : ℕ) (z : ℤ) → h ≤ 2 ^ 40 → twos h z < 2 * h → to_z w64 (of_z w64 z) ≡ z
signed-kept h z b l =
    let k : mag z < h = subst (λ (y : ℤ). mag y < h) (signed-twos h z l) (signed-mag h (twos h z) l) in
    back w64 z (let q : mag z < 9223372036854775808 = omega arith in q)

half-small : (w : ℕ) → w ≤ 40 → 2 ^ (w - 1) ≤ 2 ^ 40
half-small w l = pow-le-pow_right (let q : zero < 2 = omega arith in q) (let q : w - 1 ≤ 40 = omega arith in q)

operand-kept : (w : Width) (v : Operand w) → bits w ≤ 40 → bits_in w v < 2 ^ bits w → given w (pattern w v) ≡ v
operand-kept (Width.unsigned w) v b l = refl
operand-kept (Width.signed w) z b l = signed-kept (2 ^ (w - 1)) z (half-small w b) (in_halves w l)
operand-kept (Width.displacement w) z b l = signed-kept (2 ^ (w - 1)) z (half-small w b) (in_halves w l)
operand-kept Width.i40 z b l = signed-kept (2 ^ 39) z (omega arith) (subst (λ (n : ℕ). n < 2 ^ 40) (raw-fits z l).0 l)

-- a pattern of 64 bits is that of the operand that is read from it
pattern-kept : (w : Width) (p : ℕ) → Fits w64 p → pattern w (given w p) ≡ p
pattern-kept (Width.unsigned w) p f = refl
pattern-kept (Width.signed w) p f = of_z-to_z w64 p f
pattern-kept (Width.displacement w) p f = of_z-to_z w64 p f
pattern-kept Width.i40 p f = of_z-to_z w64 p f

-- fields that fit alike and pack alike make the same word
make_same : (n : ℕ) (fs gs : List Field) → all_fit fs ≡ all_fit gs → pack fs ≡ pack gs → make n fs ≡ make n gs
make_same n fs gs p q = ap (λ (b : Bool). word_if b n (pack fs)) p ∙ ap (λ (x : ℕ). word_if (all_fit gs) n x) q

-- ---- from an instruction to its numbers and back

-- numbers that are the operands' patterns, and 0 after them, give the operands' fields
fill : (ws : List Width) (vs : Operands ws) (ps : List ℕ) → length ws ≤ length ps → narrow ws ≡ true
    → ((k : ℕ) → get_or ps k 0 ≡ get_or (patterns ws vs) k 0) → all_fit (fields ws vs) ≡ true
    → (all_fit (fields_from ws ps) ≡ true) × (pack (fields_from ws ps) ≡ pack (fields ws vs))
fill [] vs [] l n h f = (refl, refl)
fill [] vs (p ∷ ps) l n h f =
    let e : p ≡ 0 = h 0 in
    let r = fill [] vs ps (omega arith) n (λ k. h (suc k)) f in
    (ap (λ (x : ℕ). ltb x 1 && all_fit (fields_from [] ps)) e ∙ r.0, ap (λ (x : ℕ). x + 1 * pack (fields_from [] ps)) e ∙ ap (λ (x : ℕ). 0 + 1 * x) r.1)
fill (w ∷ ws) vs [] l n h f = absurd (let q : ⊥ = omega arith in q)
fill (w ∷ ws) vs (p ∷ ps) l n h f =
    let m = 2 ^ bits w in
    let b = and-true (leb (bits w) 40) (narrow ws) n in
    let g = head-fits m (bits_in w vs.0) (fields ws vs.1) f in
    let e : given w p ≡ vs.0 = ap (given w) (h 0) ∙ operand-kept w vs.0 (leb-true (bits w) 40 b.0) g.0 in
    let r = fill ws vs.1 ps (let q : length ws ≤ length ps = omega arith in q) b.1 (λ k. h (suc k)) g.1 in (
      ap (λ (x : Operand w). ltb (bits_in w x) m && all_fit (fields_from ws ps)) e
          ∙ ap (λ (t : Bool). t && all_fit (fields_from ws ps)) (lt-ltb (bits_in w vs.0) m g.0) ∙ r.0,
      ap (λ (x : Operand w). bits_in w x + m * pack (fields_from ws ps)) e ∙ ap (λ (y : ℕ). bits_in w vs.0 + m * y) r.1,
    )

length-patterns : (ws : List Width) (vs : Operands ws) → length (patterns ws vs) ≡ length ws
length-patterns [] vs = refl
length-patterns (w ∷ ws) vs = ap suc (length-patterns ws vs.1)

-- the five numbers of at most five
abbrev five : List ℕ → List ℕ
five qs = get_or qs 0 0 ∷ get_or qs 1 0 ∷ get_or qs 2 0 ∷ get_or qs 3 0 ∷ get_or qs 4 0 ∷ []

five-at : (qs : List ℕ) → length qs ≤ 5 → (k : ℕ) → get_or (five qs) k 0 ≡ get_or qs k 0
five-at qs l zero = refl
five-at qs l (suc zero) = refl
five-at qs l (suc (suc zero)) = refl
five-at qs l (suc (suc (suc zero))) = refl
five-at qs l (suc (suc (suc (suc zero)))) = refl
five-at qs l (suc (suc (suc (suc (suc k))))) = sym (get_or-eq_default qs 0 (let q : length qs ≤ suc (suc (suc (suc (suc k)))) = omega arith in q))

-- an instruction's opcode is below 77: past it no form makes an instruction
unknown : (f : Form) → f ≡ Form.Unknown → (vs : Operands (widths f)) → op_from f vs ≡ None
unknown f e = subst (λ (g : Form). (vs : Operands (widths g)) → op_from g vs ≡ None) (sym e) (λ vs. refl)

known : (i : Op) → op_of (form_of i) < 77
known i = elim (dec_lt (op_of (form_of i)) 77) [
  | yes l ↦ l
  | no l ↦ (
      let f : form_of i ≡ Form.Unknown = sym (form-op (form_of i)).0 ∙ past (op_of (form_of i)) (let q : 77 ≤ op_of (form_of i) = omega arith in q) in
      let bad : Some i ≡ None = sym (op-again i) ∙ unknown (form_of i) f (operands_of i) in
      absurd (let z : ◌≡◌ {A = ℕ} 0 1 = cc in let r : ⊥ = omega arith in r))
]

abbrev pub encoded : PlainOp → Option Insn
encoded p = encode_of p.opcode p.a p.b p.c p.d p.e

-- the numbers of an instruction whose operands fit make the instruction's word
pub again : (i : Op) → all_fit (fields_of i) ≡ true → encoded (plain_op i) ≡ made_of i
unfolding encode_of
again i h =
    let n = op_of (form_of i) in
    let ws = widths (form_of i) in
    let qs = patterns ws (operands_of i) in
    let few = at-most-five (form_of i) in
    let short : length qs ≤ 5 = omega (arith, length-patterns ws (operands_of i), few.0) in
    let r = fill ws (operands_of i) (five qs) few.0 few.1 (five-at qs short) h in
    ap (λ (b : Bool). cond b (make n (fields_from (widths (form_at n)) (five qs))) None) (lt-ltb n 77 (known i))
    ∙ ap (λ (f : Form). make n (fields_from (widths f) (five qs))) (form-op (form_of i)).0
    ∙ make_same n (fields_from ws (five qs)) (fields_of i) (r.0 ∙ sym h) r.1

-- encode (decode w) = w, for every word that decodes
pub encode-decode : (w : ℕ) (i : Op) → decode_of w ≡ Some i → encoded (plain_op i) ≡ Some (record { bits = w })
encode-decode w i e = again i (decoded-fits w i e) ∙ made-decode w i e

-- ---- and back: what encodes decodes to the numbers it was made of

-- the operands that a form takes of some numbers
abbrev taken : (ws : List Width) → List ℕ → Operands ws
taken [] ps = tt
taken (w ∷ ws) [] = (given w 0, taken ws [])
taken (w ∷ ws) (p ∷ ps) = (given w p, taken ws ps)

taken-fit : (ws : List Width) (ps : List ℕ) → length ws ≤ length ps → all_fit (fields_from ws ps) ≡ true
    → (all_fit (fields ws (taken ws ps)) ≡ true) × (pack (fields ws (taken ws ps)) ≡ pack (fields_from ws ps))
taken-fit [] [] l f = (refl, refl)
taken-fit [] (p ∷ ps) l f =
    let g = head-fits 1 p (fields_from [] ps) f in
    let r = taken-fit [] ps (omega arith) g.1 in
    let z : p < 1 = g.0 in
    let y : 0 ≡ pack (fields_from [] ps) = r.1 in
    (refl, omega arith)
taken-fit (w ∷ ws) [] l f = absurd (let q : ⊥ = omega arith in q)
taken-fit (w ∷ ws) (p ∷ ps) l f =
    let m = 2 ^ bits w in
    let v = bits_in w (given w p) in
    let g = head-fits m v (fields_from ws ps) f in
    let r = taken-fit ws ps (let q : length ws ≤ length ps = omega arith in q) g.1 in
    (ap (λ (t : Bool). t && all_fit (fields ws (taken ws ps))) (lt-ltb v m g.0) ∙ r.0, ap (λ (y : ℕ). v + m * y) r.1)

abbrev pub Wide : List ℕ → Type 0
Wide [] = Unit {0}
Wide (p ∷ ps) = Fits w64 p × Wide ps

taken_at : (ws : List Width) (ps : List ℕ) → Wide ps → length ws ≤ length ps → all_fit (fields_from ws ps) ≡ true
    → (k : ℕ) → get_or (patterns ws (taken ws ps)) k 0 ≡ get_or ps k 0
taken_at [] [] wide l f k = refl
taken_at [] (p ∷ ps) wide l f zero = let z : p < 1 = (head-fits 1 p (fields_from [] ps) f).0 in omega arith
taken_at [] (p ∷ ps) wide l f (suc k) = taken_at [] ps wide.1 (omega arith) (head-fits 1 p (fields_from [] ps) f).1 k
taken_at (w ∷ ws) [] wide l f k = absurd (let q : ⊥ = omega arith in q)
taken_at (w ∷ ws) (p ∷ ps) wide l f zero = pattern-kept w p wide.0
taken_at (w ∷ ws) (p ∷ ps) wide l f (suc k) =
    taken_at ws ps wide.1 (let q : length ws ≤ length ps = omega arith in q) (head-fits (2 ^ bits w) (bits_in w (given w p)) (fields_from ws ps) f).1 k

clash : {A : Type 0} {i : Op} → Some i ≡ None → A
clash e = absurd (let z : ◌≡◌ {A = ℕ} 0 1 = cc in let r : ⊥ = omega arith in r)

-- every form but one makes an instruction of its operands
only-unknown : (f : Form) (vs : Operands (widths f)) → op_from f vs ≡ None → op_of f ≡ 77
only-unknown (Form.Bare k) vs e = clash e
only-unknown Form.LoadImm40 vs e = clash e
only-unknown (Form.Two k) vs e = clash e
only-unknown (Form.Slot k) vs e = clash e
only-unknown (Form.Three k) vs e = clash e
only-unknown (Form.Shift k) vs e = clash e
only-unknown Form.BitAndMask vs e = clash e
only-unknown Form.RshiftMask vs e = clash e
only-unknown (Form.Arith k) vs e = clash e
only-unknown Form.ClosNew vs e = clash e
only-unknown Form.ClosSet vs e = clash e
only-unknown Form.ClosGet vs e = clash e
only-unknown (Form.One k) vs e = clash e
only-unknown (Form.Wide k) vs e = clash e
only-unknown (Form.If k) vs e = clash e
only-unknown (Form.Jump k) vs e = clash e
only-unknown (Form.JumpImm k) vs e = clash e
only-unknown Form.Jmp vs e = clash e
only-unknown (Form.Call k) vs e = clash e
only-unknown Form.CallHost vs e = clash e
only-unknown (Form.ById k) vs e = clash e
only-unknown Form.CallMethodHost vs e = clash e
only-unknown Form.RetImm40 vs e = clash e
only-unknown Form.Unknown vs e = refl

never : {w : Insn} → None ≡ Some w → ⊥
never e = let z : ◌≡◌ {A = ℕ} 9 0 = ap made_number e in omega arith

module _ (n a b c d e : ℕ) (w : Insn) (wide : Wide (a ∷ b ∷ c ∷ d ∷ e ∷ [])) (l : n < 77) where
  abbrev numbers : List ℕ
  numbers = a ∷ b ∷ c ∷ d ∷ e ∷ []

  -- the instruction of opcode n that takes these numbers
  one_of : make n (fields_from (widths (form_at n)) numbers) ≡ Some w → (i : Op) → op_from (form_at n) (taken (widths (form_at n)) numbers) ≡ Some i
      → (decode_of w.bits ≡ Some i) × (plain_op i ≡ plain n a b c d e)
  one_of h i is =
      let f = form_at n in
      let ws = widths f in
      let vs = taken ws numbers in
      let o : op_of f ≡ n = op-form n l in
      let g = (made-fits n (fields_from ws numbers) w h).0 in
      let t = taken-fit ws numbers (at-most-five f).0 g in
      let at = taken_at ws numbers wide (at-most-five f).0 g in
      let m : made_of i ≡ make (op_of f) (fields ws vs) = from-op (λ x us. make (op_of x) (fields (widths x) us)) f vs is in
      let p : plain_op i ≡ padded (op_of f) (patterns ws vs) = from-op (λ x us. padded (op_of x) (patterns (widths x) us)) f vs is in
      (decode-made i w (m ∙ ap (λ (k : ℕ). make k (fields ws vs)) o ∙ make_same n (fields ws vs) (fields_from ws numbers) (t.0 ∙ sym g) t.1 ∙ h), p ∙ rw (o, at 0, at 1, at 2, at 3, at 4) refl)

  encoded-one : make n (fields_from (widths (form_at n)) numbers) ≡ Some w → (i : Op) × (decode_of w.bits ≡ Some i) × (plain_op i ≡ plain n a b c d e)
  encoded-one h = go (op_from (form_at n) (taken (widths (form_at n)) numbers)) refl
    where
      go : (r : Option Op) → op_from (form_at n) (taken (widths (form_at n)) numbers) ≡ r → (i : Op) × (decode_of w.bits ≡ Some i) × (plain_op i ≡ plain n a b c d e)
      go (Some i) is = let x = one_of h i is in (i, x.0, x.1)
      go None is = absurd (let k : n ≡ 77 = sym (op-form n l) ∙ only-unknown (form_at n) (taken (widths (form_at n)) numbers) is in let q : ⊥ = omega arith in q)

-- decode (encode n a b c d e) = n a b c d e, wherever encode gives a word
pub decode-encode : (n a b c d e : ℕ) (w : Insn) → Wide (a ∷ b ∷ c ∷ d ∷ e ∷ []) → encode_of n a b c d e ≡ Some w
    → (i : Op) × (decode_of w.bits ≡ Some i) × (plain_op i ≡ plain n a b c d e)
unfolding encode_of
decode-encode n a b c d e w wide h = elim (dec_lt n 77) [
  | yes l ↦
      encoded-one n a b c d e w wide l
      (sym (ap (λ (x : Bool). cond x (make n (fields_from (widths (form_at n)) (a ∷ b ∷ c ∷ d ∷ e ∷ []))) None) (lt-ltb n 77 l)) ∙ h)
  | no l ↦ absurd (never (encode-past n a b c d e (let q : 76 < n = omega arith in q) ∙ h))
]
