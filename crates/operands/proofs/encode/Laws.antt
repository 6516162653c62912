-- An arm knows which form or field it has; the fields of every form have room in a word, and are those of the definition.
use Rattle.std.specs.Prelude.{Option, None}
use Rattle.insns.specs.declared.Insn.{Insn}
use mathlib.Core.Path.{◌≡◌, refl, sym, ap, ◌∙◌}
use mathlib.Core.Bool.{Bool, true, ◌&&◌, cond}
use mathlib.Core.List.{List, [], ◌∷◌}
use Prim.Native.Nat.{ℕ, ◌*◌, ◌≤◌, ◌<◌, ◌^◌}
use native.Mathlib.Omega.{arith}
use borrow.Author.Tests.{leb-true, le-ltb, lt-ltb}
use lib.Dec.{leb}
use lib.IntN.{ℤ}
use lib.ListN.{length, get_or}
use mir.Syntax.{w64}
use mir.Val.{SFits, to_z, of_z}
use mir.Facts.{to_z-of_z}
use Rattle.insns.proofs.Table.{and-true}
use Rattle.insns.specs.Fields.{Width, bits, Field, make, raw_bits}
use Rattle.insns.specs.Bits.{twos}
use Rattle.insns.specs.Insns.{form_at, widths}
use Rattle.insns.specs.declared.op.Form.{Form}
use Rattle.operands.specs.Encode.{fields_from, encode_of}
use Rattle.operands.specs.Shapes.{size_of, field_at, shapes_of, Narrow}
use Rattle.operands.specs.declared.encode.Shape.{Shape}

pub shapes-at : {f g : Form} {r : List Shape} → f ≡ g → r ≡ shapes_of g → r ≡ shapes_of f
shapes-at k q = q ∙ ap shapes_of (sym k)

pub field-is : {s t : Shape} (p : ℕ) → s ≡ t → field_at t p ≡ field_at s p
field-is p k = ap (λ (x : Shape). field_at x p) (sym k)

pub half_at : {s : Shape} {h : ℕ} → s ≡ Shape.Signed h → Narrow s → h ≤ 2 ^ 40
half_at {h = h} k q = let l : 2 * h ≤ 2 ^ 41 = rw k at q in omega arith

module _ (p : ℕ) {s : Shape} {z : ℤ} {r : ℕ} (f : SFits w64 z) (e : z ≡ to_z w64 p) where
  pub field-signed : {h : ℕ} → s ≡ Shape.Signed h → r ≡ twos h (to_z w64 (of_z w64 z)) → (2 * h, r) ≡ field_at s p
  field-signed {h} k q = ap (λ (x : ℕ). (2 * h, x)) (q ∙ ap (twos h) (to_z-of_z f ∙ e)) ∙ field-is p k

  pub field-raw : s ≡ Shape.Raw → r ≡ raw_bits (to_z w64 (of_z w64 z)) → (1099511627776, r) ≡ field_at s p
  field-raw k q = ap (λ (x : ℕ). (1099511627776, x)) (q ∙ ap raw_bits (to_z-of_z f ∙ e)) ∙ field-is p k

-- ---- the fields of every form are narrow, at most five, and have room in a word

-- what the code reads past the end
abbrev default : Shape
default = Shape.Unsigned 0

abbrev sized : List Shape → ℕ → ℕ
sized ss k = size_of (get_or ss k default)

fits : List Shape → Bool
fits ss =
    leb (sized ss 0) (2 ^ 41) && (leb (sized ss 1) (2 ^ 41) && (leb (sized ss 2) (2 ^ 41) && (leb (sized ss 3) (2 ^ 41) && (leb (sized ss 4) (2 ^ 41)
    && leb (sized ss 0 * (sized ss 1 * (sized ss 2 * (sized ss 3 * sized ss 4)))) (2 ^ 56)))))

-- every operand has at most 40 bits
abbrev pub narrow : List Width → Bool
narrow [] = true
narrow (w ∷ ws) = leb (bits w) 40 && narrow ws

every : (f : Form) → (fits (shapes_of f) && (leb (length (widths f)) 5 && narrow (widths f))) ≡ true
unfolding fits
every (Form.Bare k) = refl
every Form.LoadImm40 = refl
every (Form.Two k) = refl
every (Form.Slot k) = refl
every (Form.Three k) = refl
every (Form.Shift k) = refl
every Form.BitAndMask = refl
every Form.RshiftMask = refl
every (Form.Arith k) = refl
every Form.ClosNew = refl
every Form.ClosSet = refl
every Form.ClosGet = refl
every (Form.One k) = refl
every (Form.Wide k) = refl
every (Form.If k) = refl
every (Form.Jump k) = refl
every (Form.JumpImm k) = refl
every Form.Jmp = refl
every (Form.Call k) = refl
every Form.CallHost = refl
every (Form.ById k) = refl
every Form.CallMethodHost = refl
every Form.RetImm40 = refl
every Form.Unknown = refl

pub record Fit (ss : List Shape) : Type 0 where
  pub a : Narrow (get_or ss 0 default)
  pub b : Narrow (get_or ss 1 default)
  pub c : Narrow (get_or ss 2 default)
  pub d : Narrow (get_or ss 3 default)
  pub e : Narrow (get_or ss 4 default)
  pub room : sized ss 0 * (sized ss 1 * (sized ss 2 * (sized ss 3 * sized ss 4))) ≤ 2 ^ 56

pub fit : (f : Form) {ss : List Shape} → ss ≡ shapes_of f → Fit ss
unfolding fits
fit f k =
    let h1 = and-true _ _ (ap fits k ∙ (and-true (fits (shapes_of f)) _ (every f)).0) in
    let h2 = and-true _ _ h1.1 in
    let h3 = and-true _ _ h2.1 in
    let h4 = and-true _ _ h3.1 in
    let h5 = and-true _ _ h4.1 in
    record {
      a = leb-true _ _ h1.0;
      b = leb-true _ _ h2.0;
      c = leb-true _ _ h3.0;
      d = leb-true _ _ h4.0;
      e = leb-true _ _ h5.0;
      room = leb-true _ _ h5.1;
    }

pub room_by : {ss : List Shape} {ma mb mc md me : ℕ} → ma ≡ sized ss 0 → mb ≡ sized ss 1 → mc ≡ sized ss 2 → md ≡ sized ss 3 → me ≡ sized ss 4
    → (f : Form) → ss ≡ shapes_of f → ma * (mb * (mc * (md * me))) ≤ 2 ^ 56
room_by ka kb kc kd ke f k = rw (ka, kb, kc, kd, ke) (fit f k).room

pub at-most-five : (f : Form) → (length (widths f) ≤ 5) × (narrow (widths f) ≡ true)
at-most-five f =
    let few = and-true (fits (shapes_of f)) (leb (length (widths f)) 5 && narrow (widths f)) (every f) in
    let h = and-true (leb (length (widths f)) 5) (narrow (widths f)) few.1 in
    (leb-true (length (widths f)) 5 h.0, h.1)

-- ---- an opcode and five operands

abbrev five : List Shape → ℕ → ℕ → ℕ → ℕ → ℕ → List Field
five ss a b c d e =
    field_at (get_or ss 0 default) a ∷ field_at (get_or ss 1 default) b ∷ field_at (get_or ss 2 default) c ∷ field_at (get_or ss 3 default) d
    ∷ field_at (get_or ss 4 default) e ∷ []

module _ (a b c d e : ℕ) where
  five-is : (f : Form) → five (shapes_of f) a b c d e ≡ fields_from (widths f) (a ∷ b ∷ c ∷ d ∷ e ∷ [])
  five-is (Form.Bare k) = refl
  five-is Form.LoadImm40 = refl
  five-is (Form.Two k) = refl
  five-is (Form.Slot k) = refl
  five-is (Form.Three k) = refl
  five-is (Form.Shift k) = refl
  five-is Form.BitAndMask = refl
  five-is Form.RshiftMask = refl
  five-is (Form.Arith k) = refl
  five-is Form.ClosNew = refl
  five-is Form.ClosSet = refl
  five-is Form.ClosGet = refl
  five-is (Form.One k) = refl
  five-is (Form.Wide k) = refl
  five-is (Form.If k) = refl
  five-is (Form.Jump k) = refl
  five-is (Form.JumpImm k) = refl
  five-is Form.Jmp = refl
  five-is (Form.Call k) = refl
  five-is Form.CallHost = refl
  five-is (Form.ById k) = refl
  five-is Form.CallMethodHost = refl
  five-is Form.RetImm40 = refl
  five-is Form.Unknown = refl

pub encode-by : (n a b c d e : ℕ) {f : Form} {ss : List Shape} {xa xb xc xd xe : Field} {r : Option Insn} → n ≤ 76 → f ≡ form_at n → ss ≡ shapes_of f
    → xa ≡ field_at (get_or ss 0 default) a → xb ≡ field_at (get_or ss 1 default) b → xc ≡ field_at (get_or ss 2 default) c
    → xd ≡ field_at (get_or ss 3 default) d → xe ≡ field_at (get_or ss 4 default) e
    → r ≡ make n (xa ∷ xb ∷ xc ∷ xd ∷ xe ∷ []) → r ≡ encode_of n a b c d e
unfolding encode_of
encode-by n a b c d e h g k la lb lc ld le q =
    rw (la, lb, lc, ld, le) at q
    ∙ ap (λ (t : List Shape). make n (five t a b c d e)) (k ∙ ap shapes_of g)
    ∙ ap (make n) (five-is a b c d e (form_at n))
    ∙ sym (ap (λ (x : Bool). cond x (make n (fields_from (widths (form_at n)) (a ∷ b ∷ c ∷ d ∷ e ∷ []))) None) (lt-ltb n 77 (omega arith)))

pub encode-past : (n a b c d e : ℕ) → 76 < n → None ≡ encode_of n a b c d e
unfolding encode_of
encode-past n a b c d e h =
    sym (ap (λ (x : Bool). cond x (make n (fields_from (widths (form_at n)) (a ∷ b ∷ c ∷ d ∷ e ∷ []))) None) (le-ltb n 77 (omega arith)))
