-- Digits of any number: the tests, and doubling from the right.
use mathlib.Core.Path.{◌≡◌, refl, sym, ◌∙◌, ap}
use mathlib.Core.Bool.{Bool, true, false, ◌&&◌}
use mathlib.Core.List.{List, [], ◌∷◌}
use Prim.Native.Nat.{ℕ, zero, suc, ◌+◌, ◌-◌, ◌*◌, ◌/◌, ◌%◌, ◌^◌, ◌≤◌, ◌<◌}
use native.Mathlib.Nat.{add-mul, mul_assoc, mul_right_comm, mul-le-mul_right, one-mul, one-le-pow, pow-suc, zero-mul}
use native.Mathlib.Omega.{arith}
use lib.Dec.{leb, ltb, eqb}
use lib.ListN.{length, get_or, drop, set, length-drop, length-set}
use lib.Seq.{drop-cons, drop-length, drop-set-lt, get_or-set_same, get_or-set_other, lt-length-set}
use borrow.Author.Rules.{rules}
use native.Mathlib.Decide.{dec_lt}
use Rattle.std.specs.Char.{is_ascii_digit}
use Rattle.std.specs.List.{list_all}
use borrow.Author.Tests.{lt-ltb, le-ltb, le-leb, lt-leb, ne_eqb, leb-true, ltb-true}
use Rattle.text.specs.Decimal.{is_digit, all_digits, value_of}
use Rattle.text.specs.Doubling.{Doubled}

both : (t u : Bool) → (t && u) ≡ true → (t ≡ true) × (u ≡ true)
both true u h = (refl, h)
both false u h = absurd (let z : ◌≡◌ {A = ℕ} 0 1 = cc in omega arith)

digit-is : (b : ℕ) → is_digit b ≡ true → (48 ≤ b) × (b < 58)
unfolding is_digit
digit-is b h = let k = both (leb 48 b) (ltb b 58) h in (leb-true 48 b k.0, ltb-true b 58 k.1)

-- ---- every byte

ascii-is : (b : ℕ) → is_ascii_digit b ≡ is_digit b
unfolding is_digit
ascii-is b = elim (dec_lt b 58) [ yes h ↦ rw (le-leb b 57 (omega arith), lt-ltb b 58 h) refl | no h ↦ rw (lt-leb b 57 (omega arith), le-ltb b 58 (omega arith)) refl ]

pub all-is : (s : List ℕ) → list_all is_ascii_digit s ≡ all_digits s
unfolding all_digits
all-is [] = refl
all-is (b ∷ s) = rw (ascii-is b, all-is s) refl

digit_at : (s : List ℕ) (i : ℕ) → all_digits s ≡ true → i < length s → (48 ≤ get_or s i 0) × (get_or s i 0 < 58)
unfolding all_digits
digit_at [] i a h = absurd (omega arith)
digit_at (b ∷ s) zero a h = digit-is b (both (is_digit b) (all_digits s) a).0
digit_at (b ∷ s) (suc i) a h = digit_at s i (both (is_digit b) (all_digits s) a).1 (omega arith)

pub value-below : (s : List ℕ) → all_digits s ≡ true → value_of s < 10 ^ length s
unfolding all_digits value_of
value-below [] a = omega arith
value-below (b ∷ s) a =
    let k = both (is_digit b) (all_digits s) a in
    let d = digit-is b k.0 in
    let l : (b - 48) * 10 ^ length s ≤ 9 * 10 ^ length s = mul-le-mul_right (10 ^ length s) (omega arith) in
    rw (pow-suc 10 (length s)) (omega (arith, value-below s k.1))

-- ---- whether all are zero

pub zero-is : (s : List ℕ) → all_digits s ≡ true → list_all (λ d. eqb d 48) s ≡ eqb (value_of s) 0
unfolding all_digits value_of
zero-is [] a = refl
zero-is (b ∷ s) a =
    let k = both (is_digit b) (all_digits s) a in
    elim (dec_lt 48 b) [
      | yes h ↦
          let l : 1 * 10 ^ length s ≤ (b - 48) * 10 ^ length s = mul-le-mul_right (10 ^ length s) (omega arith) in
          let p : 1 ≤ 10 ^ length s = one-le-pow (length s) 10 (omega arith) in
          rw (ne_eqb b 48 (λ z. omega arith)) (sym (ne_eqb ((b - 48) * 10 ^ length s + value_of s) 0 (λ z. omega (arith, one-mul (10 ^ length s)))))
      | no h ↦
          let z : b ≡ 48 = omega (arith, digit-is b k.0) in
          let q : value_of s ≡ 0 * 10 ^ length s + value_of s = omega (arith, zero-mul (10 ^ length s)) in
          rw z (zero-is s k.1 ∙ ap (λ (x : ℕ). eqb x 0) q)
    ]

-- ---- doubling

-- one digit x of place value p, with c carried in: d = 2 x + c goes to q and r; v and w are the digits after it, doubled and as they were
carried : (p x c v w d q r : ℕ) → d ≡ 2 * x + c → q * 10 + r ≡ d → c * p + v ≡ w * 2 → q * (p * 10) + (r * p + v) ≡ (x * p + w) * 2
carried p x c v w d q r hd hq inv =
    let a : q * (p * 10) ≡ q * 10 * p = sym (mul_right_comm q 10 p ∙ mul_assoc q p 10) in
    let b : (q * 10 + r) * p ≡ q * 10 * p + r * p = add-mul (q * 10) r p in
    let e : (2 * x + c) * p ≡ 2 * x * p + c * p = add-mul (2 * x) c p in
    let g : 2 * x * p ≡ 2 * (x * p) = mul_assoc 2 x p in
    let k : (q * 10 + r) * p ≡ (2 * x + c) * p = ap (λ (y : ℕ). y * p) (hq ∙ hd) in
    omega arith

-- l, doubled from i on: f is what its digits are now, c what is carried
pub record Doubling (l f : List ℕ) (c i : ℕ) : Type 0 where
  pub long : length f ≡ length l
  pub inside : i ≤ length l
  pub front : (k : ℕ) → k < i → get_or f k 0 ≡ get_or l k 0
  pub digits : all_digits (drop i f) ≡ true
  pub twice : c * 10 ^ (length l - i) + value_of (drop i f) ≡ value_of (drop i l) * 2
  pub carry : c ≤ 1

pub doubling-none : (l : List ℕ) → Doubling l l 0 (length l)
unfolding all_digits value_of
doubling-none l = record { long = refl; inside = omega arith; front = λ k h. refl; digits = rw (drop-length l); twice = rw (drop-length l) (omega (arith, zero-mul (10 ^ (length l - length l)))); carry = omega arith }

module _ {l f : List ℕ} {c i : ℕ} (inv : Doubling l f c i) (a : all_digits l ≡ true) (z : 0 < i) where
  pub doubling-at : (48 ≤ get_or f (i - 1) 0) × (get_or f (i - 1) 0 < 58)
  doubling-at = let k = digit_at l (i - 1) a (omega (arith, inv.inside)) in rw (inv.front (i - 1) (omega arith)) k

  module _ (y : ℕ) (low : 48 ≤ y) (high : y < 58) where
    became : drop (i - 1) (set f (i - 1) y) ≡ y ∷ drop i f
    became =
        let h : i - 1 < length f = omega (arith, inv.inside, inv.long) in
        let e : suc (i - 1) ≡ i = omega arith in
        drop-cons (set f (i - 1) y) (i - 1) 0 (lt-length-set f (i - 1) y h) ∙ rw (get_or-set_same f (i - 1) y 0 h, drop-set-lt (suc (i - 1)) f (i - 1) y (omega arith), e)

    front_kept : (k : ℕ) → k < i - 1 → get_or (set f (i - 1) y) k 0 ≡ get_or l k 0
    front_kept k h = get_or-set_other f (i - 1) k y 0 (λ e. omega arith) ∙ inv.front k (omega arith)

    digits-kept : all_digits (drop (i - 1) (set f (i - 1) y)) ≡ true
    unfolding all_digits is_digit
    digits-kept = rw (became, le-leb 48 y low, lt-ltb y 58 high) inv.digits

    valued : value_of (drop (i - 1) (set f (i - 1) y)) ≡ (y - 48) * 10 ^ (length l - i) + value_of (drop i f)
    unfolding value_of
    valued = rw (became, length-drop i f, inv.long)

  before : drop (i - 1) l ≡ get_or f (i - 1) 0 ∷ drop i l
  before =
      let e : suc (i - 1) ≡ i = omega arith in
      drop-cons l (i - 1) 0 (omega (arith, inv.inside)) ∙ rw (e, inv.front (i - 1) (omega arith))

  was : value_of (drop (i - 1) l) ≡ (get_or f (i - 1) 0 - 48) * 10 ^ (length l - i) + value_of (drop i l)
  unfolding value_of
  was = rw (before, length-drop i l)

  pub doubling-more : let d = 2 * (get_or f (i - 1) 0 - 48) + c in Doubling l (set f (i - 1) (48 + d % 10)) (d / 10) (i - 1)
  doubling-more =
      let d = 2 * (get_or f (i - 1) 0 - 48) + c in
      let y = 48 + d % 10 in
      let e : length l - (i - 1) ≡ suc (length l - i) = omega (arith, inv.inside) in
      let r : y - 48 ≡ d % 10 = omega arith in
      let m : d / 10 * 10 + d % 10 ≡ d = omega arith in
      record {
        long = length-set f (i - 1) y ∙ inv.long;
        inside = omega (arith, inv.inside);
        front = front_kept y (omega arith) (omega arith);
        digits = digits-kept y (omega arith) (omega arith);
        twice = rw (e, pow-suc 10 (length l - i), valued y (omega arith) (omega arith), was, r) (carried (10 ^ (length l - i)) (get_or f (i - 1) 0 - 48) c (value_of (drop i f)) (value_of (drop i l)) d (d / 10) (d % 10) refl m inv.twice);
        carry = omega (arith, inv.carry, doubling-at);
      }

pub doubling-done : {l f : List ℕ} {c i : ℕ} → Doubling l f c i → i ≤ 0 → Doubled l f c
doubling-done {l} {f} {c} {i} inv h =
    let z : i ≡ 0 = omega arith in
    let e : length l - 0 ≡ length l = omega arith in
    record { digits = rw z at inv.digits; twice = rw (z, e) at inv.twice; carry = inv.carry }

pub ruleset doubles = (doubling-none, doubling-more, doubling-done, rules)
