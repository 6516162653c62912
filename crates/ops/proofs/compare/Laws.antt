-- What each comparison answers, as the code finds it.
use Rattle.std.proofs.Common.{◌≡◌, ℕ, Bool, true, false, ◌&&◌, refl, sym, arith}
use Rattle.int64.specs.declared.order.Cmp.{Cmp}
use Rattle.value.specs.Value.{Datum, nil, bool, int, float}
use Rattle.value.specs.Answer.{Answer, is_number}
use Rattle.value.specs.Seen.{as_number, number}
use Rattle.value.specs.declared.answer.Number.{Number}
use Rattle.value.specs.declared.answer.Number.TheVariants as N
use Rattle.ops.specs.Compare.{compare_numbers, compare_others, compare_of, same}

-- a value that is seen as a number is that number; another one is none
seen-is : (a : Number) (x : Datum) → number a ≡ as_number x → x ≡ number a
unfolding as_number
seen-is (N.Int p) nil e = let z : ◌≡◌ {A = ℕ} 0 1 = cc in absurd (omega arith)
seen-is (N.Int p) (bool b) e = let z : ◌≡◌ {A = ℕ} 0 1 = cc in absurd (omega arith)
seen-is (N.Float p) nil e = let z : ◌≡◌ {A = ℕ} 0 1 = cc in absurd (omega arith)
seen-is (N.Float p) (bool b) e = let z : ◌≡◌ {A = ℕ} 0 1 = cc in absurd (omega arith)
seen-is a (int n) e = sym e
seen-is a (float p) e = sym e

unseen : (x : Datum) → nil ≡ as_number x → is_number x ≡ false
unfolding as_number is_number
unseen nil e = refl
unseen (bool b) e = refl
unseen (int n) e = let z : ◌≡◌ {A = ℕ} 0 1 = cc in absurd (omega arith)
unseen (float p) e = let z : ◌≡◌ {A = ℕ} 0 1 = cc in absurd (omega arith)

counts : (a : Number) → is_number (number a) ≡ true
unfolding is_number
counts (N.Int p) = refl
counts (N.Float p) = refl

and-no : (b : Bool) → (b && false) ≡ false
and-no true = refl
and-no false = refl

module _ (c : Cmp) (x y : Datum) {o : Answer} where
  pub compare-yes : (a b : Number) → number a ≡ as_number x → number b ≡ as_number y → o ≡ compare_numbers c (number a) (number b) → o ≡ compare_of c x y
  unfolding compare_of
  compare-yes a b e f h = rw (seen-is a x e, seen-is b y f, counts a, counts b) h

  pub compare-left : nil ≡ as_number x → o ≡ compare_others c (same x y) → o ≡ compare_of c x y
  unfolding compare_of
  compare-left e h = rw (unseen x e) h

  pub compare-right : nil ≡ as_number y → o ≡ compare_others c (same x y) → o ≡ compare_of c x y
  unfolding compare_of
  compare-right e h = rw (unseen y e, and-no (is_number x)) h
