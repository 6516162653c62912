-- What each operator answers, as the code finds it.
use Rattle.std.proofs.Common.{◌≡◌, ℕ, w64, to_z, refl, ap, ap₂, ◌∙◌}
use mathlib.Core.Logic.{◌⊎◌, inl, inr}
use Rattle.faults.specs.Numbers.{wrong_kind}
use Rattle.float.specs.declared.Op as FloatOp
use Rattle.int64.specs.declared.Op as IntOp
use Rattle.int64.specs.Int as I
use Rattle.value.specs.Value.{Datum, nil, bool, int, float}
use Rattle.value.specs.Answer.{Answer, fault, is_number}
use Rattle.value.specs.Seen.{as_number, number}
use Rattle.value.specs.declared.answer.Number.{Number}
use Rattle.value.specs.declared.answer.Number.TheVariants as N
use Rattle.ops.specs.Arith.{of_numbers, from_int, converted, floats, as_floats, arith_of, whole_of}
use Rattle.ops.specs.Code.{operate_of}
use Rattle.ops.specs.declared.arith.How.{How}
use Rattle.ops.specs.declared.arith.How.TheVariants as H

-- ---- of two numbers

-- two Ints, where the operator takes Ints
pub on-two-ints : (how : How) (p q : ℕ) (i : IntOp.Op) {o : Answer} → ((g : FloatOp.Op) × (how ≡ H.Either i g)) ⊎ (how ≡ H.Ints i) → o ≡ from_int (I.operate i (to_z w64 p) (to_z w64 q))
    → o ≡ operate_of how (number (N.Int p)) (number (N.Int q))
unfolding operate_of arith_of whole_of of_numbers is_number
on-two-ints how p q i (inl e) h = rw e.1 h
on-two-ints how p q i (inr e) h = rw e h

-- not two Ints, or where the operator takes Floats alone
module _ (how : How) (f : FloatOp.Op) where
  pub on-floats : (a b : Number) {o : Answer} → how ≡ H.Floats f → o ≡ floats f (converted (number a)) (converted (number b)) → o ≡ operate_of how (number a) (number b)
  unfolding operate_of as_floats of_numbers is_number
  on-floats (N.Int p) (N.Int q) e h = rw e h
  on-floats (N.Int p) (N.Float q) e h = rw e h
  on-floats (N.Float p) (N.Int q) e h = rw e h
  on-floats (N.Float p) (N.Float q) e h = rw e h

  pub on-int-float : (p q : ℕ) {o : Answer} → ((i : IntOp.Op) × (how ≡ H.Either i f)) ⊎ (how ≡ H.Floats f) → o ≡ floats f (converted (number (N.Int p))) (converted (number (N.Float q)))
      → o ≡ operate_of how (number (N.Int p)) (number (N.Float q))
  unfolding operate_of arith_of of_numbers is_number
  on-int-float p q (inl e) h = rw e.1 h
  on-int-float p q (inr e) h = on-floats (N.Int p) (N.Float q) e h

  pub on-float-left : (p : ℕ) (b : Number) {o : Answer} → ((i : IntOp.Op) × (how ≡ H.Either i f)) ⊎ (how ≡ H.Floats f) → o ≡ floats f (converted (number (N.Float p))) (converted (number b))
      → o ≡ operate_of how (number (N.Float p)) (number b)
  unfolding operate_of arith_of of_numbers is_number
  on-float-left p (N.Int q) (inl e) h = rw e.1 h
  on-float-left p (N.Float q) (inl e) h = rw e.1 h
  on-float-left p b (inr e) h = on-floats (N.Float p) b e h

-- ---- of a value that is no number

left-kind : (how : How) (y : Datum) → fault wrong_kind ≡ operate_of how nil y
unfolding operate_of arith_of as_floats whole_of of_numbers is_number
left-kind (H.Either i f) y = refl
left-kind (H.Floats f) y = refl
left-kind (H.Ints i) y = refl

right-kind : (how : How) (x : Datum) → fault wrong_kind ≡ operate_of how x nil
unfolding operate_of arith_of as_floats whole_of of_numbers is_number
right-kind how nil = left-kind how nil
right-kind (H.Either i f) (bool b) = refl
right-kind (H.Floats f) (bool b) = refl
right-kind (H.Ints i) (bool b) = refl
right-kind (H.Either i f) (int n) = refl
right-kind (H.Floats f) (int n) = refl
right-kind (H.Ints i) (int n) = refl
right-kind (H.Either i f) (float p) = refl
right-kind (H.Floats f) (float p) = refl
right-kind (H.Ints i) (float p) = refl

-- ---- of values that are no numbers the code sees only that

no_number : (f : FloatOp.Op) (x y : Datum) → as_floats f (as_number x) (as_number y) ≡ as_floats f x y
unfolding as_floats of_numbers is_number as_number
no_number f nil nil = refl
no_number f nil (bool c) = refl
no_number f nil (int b) = refl
no_number f nil (float q) = refl
no_number f (bool b) nil = refl
no_number f (bool b) (bool c) = refl
no_number f (bool b) (int c) = refl
no_number f (bool b) (float q) = refl
no_number f (int a) nil = refl
no_number f (int a) (bool c) = refl
no_number f (int a) (int b) = refl
no_number f (int a) (float q) = refl
no_number f (float p) nil = refl
no_number f (float p) (bool c) = refl
no_number f (float p) (int b) = refl
no_number f (float p) (float q) = refl

arith-seen : (i : IntOp.Op) (f : FloatOp.Op) (x y : Datum) → arith_of i f (as_number x) (as_number y) ≡ arith_of i f x y
unfolding arith_of as_number
arith-seen i f nil y = no_number f nil y
arith-seen i f (bool b) y = no_number f (bool b) y
arith-seen i f (int a) nil = no_number f (int a) nil
arith-seen i f (int a) (bool b) = no_number f (int a) (bool b)
arith-seen i f (int a) (int b) = refl
arith-seen i f (int a) (float q) = refl
arith-seen i f (float p) y = no_number f (float p) y

whole-seen : (i : IntOp.Op) (x y : Datum) → whole_of i (as_number x) (as_number y) ≡ whole_of i x y
unfolding whole_of as_number
whole-seen i nil y = refl
whole-seen i (bool b) y = refl
whole-seen i (int a) nil = refl
whole-seen i (int a) (bool b) = refl
whole-seen i (int a) (int b) = refl
whole-seen i (int a) (float q) = refl
whole-seen i (float p) y = refl

operate-seen : (how : How) (x y : Datum) → operate_of how (as_number x) (as_number y) ≡ operate_of how x y
unfolding operate_of
operate-seen (H.Either i f) x y = arith-seen i f x y
operate-seen (H.Floats f) x y = no_number f x y
operate-seen (H.Ints i) x y = whole-seen i x y

pub operate-by : (how : How) (x y : Datum) {u v : Datum} {o : Answer} → u ≡ as_number x → v ≡ as_number y → o ≡ operate_of how u v → o ≡ operate_of how x y
operate-by how x y p q h = h ∙ ap₂ (operate_of how) p q ∙ operate-seen how x y

pub no-left : (how : How) (x y : Datum) → nil ≡ as_number x → fault wrong_kind ≡ operate_of how x y
no-left how x y e = left-kind how (as_number y) ∙ ap (λ z. operate_of how z (as_number y)) e ∙ operate-seen how x y

pub no-right : (how : How) (x y : Datum) → nil ≡ as_number y → fault wrong_kind ≡ operate_of how x y
no-right how x y e = right-kind how (as_number x) ∙ ap (operate_of how (as_number x)) e ∙ operate-seen how x y
