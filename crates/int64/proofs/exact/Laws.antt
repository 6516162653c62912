-- Signed numbers by their patterns: where 64 bits hold a sum, a difference or a product, and which pattern it has.
-- `sub_ℕ m n` is m - n as an integer: `to_z w64 p` is `sub_ℕ (up p) (2 ^ 63)`, so that sums and differences are questions on ℕ.
use Rattle.std.proofs.Common.{◌≡◌, ℕ, zero, suc, ◌+◌, ◌-◌, ◌*◌, ◌/◌, ◌%◌, ◌^◌, ◌<◌, ◌≤◌, Bool, true, false, cond, not, ltb, leb, ◌⊎◌, ℤ, pos, negsuc, ◌+ℤ◌, ◌-ℤ◌, ◌*ℤ◌, neg_ℤ, nat_abs, sym, refl, ap, ◌∙◌, ap₂, inl, inr, mod-eq_of_lt, mul-le-mul, mul-zero, le-div_iff_mul-le, arith, w64, Fits, to_z, of_z, ltb-true, le-ltb, lt-ltb, le-leb}
use mathlib.Core.Bool.{beq}
use native.Mathlib.Decide.{dec_lt, dec_le}
use lib.IntN.{sub_ℕ}
use lib.Signed.{mag}
use mir.ValLaws.{to_z-of_z, of_z-to_z}
use borrow.Author.Tests.{lt-leb}
use Rattle.int64.specs.Sign.{negative, with_sign}
use Rattle.int64.proofs.sign.Laws.{never, up}
use Rattle.int64.specs.Exact as E
use Rattle.int64.specs.Exact.{in_range}
use Rattle.int64.specs.Patterns.{bits_of, fitted}
use Rattle.int64.specs.declared.exact.Overflowing.{Overflowing}
use Rattle.int64.specs.declared.exact.Overflowing.TheVariants.{Add, Sub, Mul}

-- ---- differences of two naturals

sub-down : (m n : ℕ) → m < n → sub_ℕ m n ≡ negsuc (n - suc m)
sub-down m n h = rw (lt-ltb m n h)

sub-up : (m n : ℕ) → n ≤ m → sub_ℕ m n ≡ pos (m - n)
sub-up m n h = rw (le-ltb m n h)

sub_same : (a b c d : ℕ) → a + d ≡ c + b → sub_ℕ a b ≡ sub_ℕ c d
sub_same a b c d e = elim (dec_lt a b) [
  | yes l ↦ sub-down a b l ∙ ap negsuc (omega arith) ∙ sym (sub-down c d (omega arith))
  | no g ↦ sub-up a b (omega arith) ∙ ap pos (omega arith) ∙ sym (sub-up c d (omega arith))
]

sub-add : (a b c d : ℕ) → sub_ℕ a b +ℤ sub_ℕ c d ≡ sub_ℕ (a + c) (b + d)
sub-add a b c d = elim (dec_lt a b) [
  | yes l ↦ elim (dec_lt c d) [
    | yes k ↦ rw (sub-down a b l, sub-down c d k) (ap negsuc (omega arith) ∙ sym (sub-down (a + c) (b + d) (omega arith)))
    | no k ↦ rw (sub-down a b l, sub-up c d (omega arith)) (sub_same (c - d) (suc (b - suc a)) (a + c) (b + d) (omega arith))
  ]
  | no g ↦ elim (dec_lt c d) [
    | yes k ↦ rw (sub-up a b (omega arith), sub-down c d k) (sub_same (a - b) (suc (d - suc c)) (a + c) (b + d) (omega arith))
    | no k ↦ rw (sub-up a b (omega arith), sub-up c d (omega arith)) (ap pos (omega arith) ∙ sym (sub-up (a + c) (b + d) (omega arith)))
  ]
]

neg-pos : (m : ℕ) → neg_ℤ (pos m) ≡ sub_ℕ 0 m
neg-pos zero = refl
neg-pos (suc m) = sym (sub-down 0 (suc m) (omega arith) ∙ ap negsuc (omega arith))

sub-neg : (a b : ℕ) → neg_ℤ (sub_ℕ a b) ≡ sub_ℕ b a
sub-neg a b = elim (dec_lt a b) [
  | yes l ↦ rw (sub-down a b l) (ap pos (omega arith) ∙ sym (sub-up b a (omega arith)))
  | no g ↦ rw (sub-up a b (omega arith)) (neg-pos (a - b) ∙ sub_same 0 (a - b) b a (omega arith))
]

-- ---- which of them 64 bits hold

range-yes : (m n : ℕ) → n ≤ m + 2 ^ 63 → m < n + 2 ^ 63 → in_range (sub_ℕ m n) ≡ true
unfolding in_range
range-yes m n h k = elim (dec_lt m n) [
  | yes l ↦ rw (sub-down m n l) (lt-ltb (n - suc m) (2 ^ 63) (omega arith))
  | no g ↦ rw (sub-up m n (omega arith)) (lt-ltb (m - n) (2 ^ 63) (omega arith))
]

range-no : (m n : ℕ) → (m + 2 ^ 63 < n) ⊎ (n + 2 ^ 63 ≤ m) → in_range (sub_ℕ m n) ≡ false
unfolding in_range
range-no m n (inl h) = rw (sub-down m n (omega arith)) (le-ltb (n - suc m) (2 ^ 63) (omega arith))
range-no m n (inr h) = rw (sub-up m n (omega arith)) (le-ltb (m - n) (2 ^ 63) (omega arith))

abbrev Bounds : ℕ → ℕ → Type 0
Bounds m n = (n ≤ m + 2 ^ 63) × (m < n + 2 ^ 63)

bounds : (m n : ℕ) → in_range (sub_ℕ m n) ≡ true → Bounds m n
bounds m n e = elim (dec_le n (m + 2 ^ 63)) [
  | yes h ↦ elim (dec_lt m (n + 2 ^ 63)) [ yes k ↦ (h, k) | no k ↦ never (sym e ∙ range-no m n (inr (omega arith))) ]
  | no h ↦ never (sym e ∙ range-no m n (inl (omega arith)))
]

-- a test that holds between the two bounds
fits_by : (x y m n : ℕ) → (x ≤ y → Bounds m n) → (y < x → (m + 2 ^ 63 < n) ⊎ (n + 2 ^ 63 ≤ m)) → leb x y ≡ in_range (sub_ℕ m n)
fits_by x y m n h k = elim (dec_le x y) [
  | yes l ↦ le-leb x y l ∙ sym (range-yes m n (h l).0 (h l).1)
  | no g ↦ lt-leb x y (omega arith) ∙ sym (range-no m n (k (omega arith)))
]

-- ---- patterns

raised : (p : ℕ) → p < 2 ^ 64 → to_z w64 p ≡ sub_ℕ (up p) (2 ^ 63)
raised p h = elim (dec_lt p (2 ^ 63)) [
  | yes l ↦ rw (lt-ltb p (2 ^ 63) l) (ap pos (omega arith) ∙ sym (sub-up (up p) (2 ^ 63) (omega arith)))
  | no g ↦ rw (le-ltb p (2 ^ 63) (omega arith)) (ap negsuc (omega arith) ∙ sym (sub-down (up p) (2 ^ 63) (omega arith)))
]

-- a is p plus 2^63, without its carry
abbrev Up : ℕ → ℕ → Type 0
Up p a = ((p < 2 ^ 63) × (a ≡ p + 2 ^ 63)) ⊎ (a + 2 ^ 63 ≡ p)

ups : (p : ℕ) → p < 2 ^ 64 → Up p (up p)
ups p h = elim (dec_lt p (2 ^ 63)) [ yes l ↦ inl (l, omega arith) | no g ↦ inr (omega arith) ]

sum-up : (p q r a b c : ℕ) → Up p a → Up q b → Up r c → r ≡ (p + q) % 2 ^ 64 → Bounds (a + b) (2 ^ 64) → c + 2 ^ 64 ≡ a + b + 2 ^ 63
sum-up p q r a b c (inl x) (inl y) (inl z) e h = omega arith
sum-up p q r a b c (inl x) (inl y) (inr z) e h = omega arith
sum-up p q r a b c (inl x) (inr y) (inl z) e h = omega arith
sum-up p q r a b c (inl x) (inr y) (inr z) e h = omega arith
sum-up p q r a b c (inr x) (inl y) (inl z) e h = omega arith
sum-up p q r a b c (inr x) (inl y) (inr z) e h = omega arith
sum-up p q r a b c (inr x) (inr y) (inl z) e h = omega arith
sum-up p q r a b c (inr x) (inr y) (inr z) e h = omega arith

-- a pattern whose number lies where m - n does is the pattern of m - n
held_by : (r m n : ℕ) → r < 2 ^ 64 → in_range (sub_ℕ m n) ≡ true → (Bounds m n → up r + n ≡ m + 2 ^ 63) → r ≡ fitted (sub_ℕ m n)
unfolding fitted
held_by r m n h e k =
    let same : to_z w64 r ≡ sub_ℕ m n = raised r h ∙ sub_same (up r) (2 ^ 63) m n (k (bounds m n e)) in
    rw e (sym (ap (of_z w64) (sym same) ∙ of_z-to_z w64 r (record { fits = h })))

module _ (p q : ℕ) (f : Fits w64 p) (g : Fits w64 q) where
  h : p < 2 ^ 64
  h = f.fits

  k : q < 2 ^ 64
  k = g.fits

  sum : to_z w64 p +ℤ to_z w64 q ≡ sub_ℕ (up p + up q) (2 ^ 64)
  sum = ap₂ ◌+ℤ◌ (raised p h) (raised q k) ∙ sub-add (up p) (2 ^ 63) (up q) (2 ^ 63)

  difference : to_z w64 p -ℤ to_z w64 q ≡ sub_ℕ (up p + 2 ^ 63) (2 ^ 63 + up q)
  difference = ap₂ ◌-ℤ◌ (raised p h) (raised q k) ∙ ap (λ (z : ℤ). sub_ℕ (up p) (2 ^ 63) +ℤ z) (sub-neg (up q) (2 ^ 63)) ∙ sub-add (up p) (2 ^ 63) (2 ^ 63) (up q)

  -- whether they fit, by the tests of `fits`, with a and b the patterns raised
  module _ (op : Overflowing) {a b : ℕ} (x : a ≡ up p) (y : b ≡ up q) where
    pub sum_low : op ≡ Add → a < 2 ^ 63 → leb (2 ^ 63 - a) b ≡ in_range (E.arith op (to_z w64 p) (to_z w64 q))
    unfolding E.arith
    sum_low e l = rw (e, sum, x, y) (fits_by (2 ^ 63 - up p) (up q) (up p + up q) (2 ^ 64) (λ u. (omega arith, omega arith)) (λ u. inl (omega arith)))

    pub sum-high : op ≡ Add → 2 ^ 63 ≤ a → leb b (2 ^ 64 - 1 - (a - 2 ^ 63)) ≡ in_range (E.arith op (to_z w64 p) (to_z w64 q))
    unfolding E.arith
    sum-high e l = rw (e, sum, x, y) (fits_by (up q) (2 ^ 64 - 1 - (up p - 2 ^ 63)) (up p + up q) (2 ^ 64) (λ u. (omega arith, omega arith)) (λ u. inr (omega arith)))

    pub difference_low : op ≡ Sub → a < 2 ^ 63 → leb b (a + 2 ^ 63) ≡ in_range (E.arith op (to_z w64 p) (to_z w64 q))
    unfolding E.arith
    difference_low e l = rw (e, difference, x, y) (fits_by (up q) (up p + 2 ^ 63) (up p + 2 ^ 63) (2 ^ 63 + up q) (λ u. (omega arith, omega arith)) (λ u. inl (omega arith)))

    pub difference-high : op ≡ Sub → 2 ^ 63 ≤ a → ltb (a - 2 ^ 63) b ≡ in_range (E.arith op (to_z w64 p) (to_z w64 q))
    unfolding E.arith
    difference-high e l = rw (e, difference, x, y) (fits_by (suc (up p - 2 ^ 63)) (up q) (up p + 2 ^ 63) (2 ^ 63 + up q) (λ u. (omega arith, omega arith)) (λ u. inr (omega arith)))

  -- and which pattern they have
  pub sum-held : (op : Overflowing) (r : ℕ) → op ≡ Add → r ≡ (p + q) % 2 ^ 64 → (t : Bool) → t ≡ in_range (E.arith op (to_z w64 p) (to_z w64 q)) → t ≡ true → r ≡ fitted (E.arith op (to_z w64 p) (to_z w64 q))
  unfolding E.arith
  sum-held op r e s b d t =
      rw (e, sum)
      (held_by r (up p + up q) (2 ^ 64) (omega arith) (rw (e, sum) at (sym d ∙ t)) (sum-up p q r (up p) (up q) (up r) (ups p h) (ups q k) (ups r (omega arith)) s))

  pub difference-held : (op : Overflowing) (r : ℕ) → op ≡ Sub → Fits w64 r → (r + q) % 2 ^ 64 ≡ p → (t : Bool) → t ≡ in_range (E.arith op (to_z w64 p) (to_z w64 q)) → t ≡ true → r ≡ fitted (E.arith op (to_z w64 p) (to_z w64 q))
  unfolding E.arith
  difference-held op r e l s b d t = rw (e, difference) (held_by r (up p + 2 ^ 63) (2 ^ 63 + up q) l.fits (rw (e, difference) at (sym d ∙ t)) (λ u. omega arith))

-- ---- products, by sign and absolute value

abbrev unlike : Bool → Bool → Bool
unlike s t = not (beq s t)

pub product : (a b : ℤ) → a *ℤ b ≡ with_sign (unlike (negative a) (negative b)) (nat_abs a * nat_abs b)
unfolding with_sign negative
product (pos m) (pos n) = refl
product (pos m) (negsuc n) = refl
product (negsuc m) (pos n) = refl
product (negsuc m) (negsuc n) = refl

-- from what the code finds of the two signs and absolute values
module _ (op : Overflowing) (p q : ℕ) {s t : Bool} {x y : ℕ} where
  signs : op ≡ Mul → s ≡ negative (to_z w64 p) → t ≡ negative (to_z w64 q) → x ≡ nat_abs (to_z w64 p) → y ≡ nat_abs (to_z w64 q)
      → with_sign (unlike s t) (x * y) ≡ E.arith op (to_z w64 p) (to_z w64 q)
  unfolding E.arith
  signs e a b c d = rw (a, b, c, d, e) (sym (product (to_z w64 p) (to_z w64 q)))

  pub product-fits : {r : Bool} → r ≡ in_range (with_sign (unlike s t) (x * y)) → op ≡ Mul → s ≡ negative (to_z w64 p) → t ≡ negative (to_z w64 q) → x ≡ nat_abs (to_z w64 p)
      → y ≡ nat_abs (to_z w64 q) → r ≡ in_range (E.arith op (to_z w64 p) (to_z w64 q))
  product-fits h e a b c d = h ∙ ap in_range (signs e a b c d)

  pub product-held : {r : ℕ} → r ≡ fitted (with_sign (unlike s t) (x * y)) → op ≡ Mul → s ≡ negative (to_z w64 p) → t ≡ negative (to_z w64 q) → x ≡ nat_abs (to_z w64 p)
      → y ≡ nat_abs (to_z w64 q) → r ≡ fitted (E.arith op (to_z w64 p) (to_z w64 q))
  product-held h e a b c d = h ∙ ap fitted (signs e a b c d)

pub by-positive : (a : ℤ) (n : ℕ) → a *ℤ pos n ≡ with_sign (negative a) (nat_abs a * n)
unfolding with_sign negative
by-positive (pos m) n = refl
by-positive (negsuc m) n = refl

-- the greatest absolute value
abbrev pub most : Bool → ℕ
most s = cond s (2 ^ 63) (2 ^ 63 - 1)

pub sign_fits : (s : Bool) (m : ℕ) → m ≤ most s → in_range (with_sign s m) ≡ true
unfolding in_range with_sign
sign_fits false m h = lt-ltb m (2 ^ 63) (omega arith)
sign_fits true zero h = refl
sign_fits true (suc m) h = lt-ltb m (2 ^ 63) (omega arith)

sign-over : (s : Bool) (m : ℕ) → most s < m → in_range (with_sign s m) ≡ false
unfolding in_range with_sign
sign-over false m h = le-ltb m (2 ^ 63) (omega arith)
sign-over true zero h = absurd (omega arith)
sign-over true (suc m) h = le-ltb m (2 ^ 63) (omega arith)

pub sign-most : (s : Bool) (m : ℕ) → in_range (with_sign s m) ≡ true → m ≤ most s
sign-most s m e = elim (dec_le m (most s)) [ yes h ↦ h | no h ↦ never (sym e ∙ sign-over s m (omega arith)) ]

most-small : (s : Bool) → 2 ^ 63 - 1 ≤ most s
most-small true = omega arith
most-small false = omega arith

most-large : (s : Bool) → most s ≤ 2 ^ 63
most-large true = omega arith
most-large false = omega arith

pub small-factors : (s : Bool) (x y : ℕ) → x < 2 ^ 31 → y < 2 ^ 31 → true ≡ in_range (with_sign s (x * y))
small-factors s x y h k =
    let l : x * y ≤ 2 ^ 31 * 2 ^ 31 = mul-le-mul {n₁ = x} {m₁ = y} {n₂ = 2 ^ 31} {m₂ = 2 ^ 31} (omega arith) (omega arith) in
    sym (sign_fits s (x * y) (omega (arith, most-small s)))

pub no-factor : (s : Bool) (x y : ℕ) → y ≡ 0 → true ≡ in_range (with_sign s (x * y))
no-factor s x y e = sym (rw (e, mul-zero) (sign_fits s 0 (omega arith)))

by_most : (s : Bool) (x y : ℕ) → 0 < y → leb x (most s / y) ≡ in_range (with_sign s (x * y))
by_most s x y p = elim (dec_le x (most s / y)) [
  | yes h ↦ le-leb x (most s / y) h ∙ sym (sign_fits s (x * y) ((le-div_iff_mul-le p).0 h))
  | no g ↦ elim (dec_le (x * y) (most s)) [
    | yes h ↦ absurd (g ((le-div_iff_mul-le p).1 h))
    | no k ↦ lt-leb x (most s / y) (omega arith) ∙ sym (sign-over s (x * y) (omega arith))
  ]
]

pub by-quotient : (s : Bool) (x y : ℕ) → s ≡ false → (y ≡ 0 → ⊥) → leb x ((2 ^ 63 - 1) / y) ≡ in_range (with_sign s (x * y))
by-quotient s x y e n = rw e (by_most false x y (omega arith))

pub by-quotient' : (s : Bool) (x y : ℕ) → s ≡ true → (y ≡ 0 → ⊥) → leb x (2 ^ 63 / y) ≡ in_range (with_sign s (x * y))
by-quotient' s x y e n = rw e (by_most true x y (omega arith))

sign-bits : (s : Bool) (m : ℕ) → m ≤ most s → of_z w64 (with_sign s m) ≡ bits_of s m
unfolding with_sign bits_of
sign-bits false m h = refl
sign-bits true zero h = refl
sign-bits true (suc m) h = sym (mod-eq_of_lt (omega arith))

pub times-held : (s : Bool) (m r : ℕ) → r ≡ bits_of s m → (t : Bool) → t ≡ in_range (with_sign s m) → t ≡ true → r ≡ fitted (with_sign s m)
unfolding fitted
times-held s m r e t d h = rw (sym d ∙ h) (e ∙ sym (sign-bits s m (sign-most s m (sym d ∙ h))))

pub times-fits : (s : Bool) (m : ℕ) (t : Bool) → t ≡ in_range (with_sign s m) → t ≡ true → Fits w64 m
times-fits s m t d h = record { fits = omega (arith, most-large s, sign-most s m (sym d ∙ h)) }

-- the number of a result with a sign
pub sign-number : (s : Bool) (m : ℕ) → in_range (with_sign s m) ≡ true → to_z w64 (bits_of s m) ≡ with_sign s m
unfolding in_range
sign-number s m t = ap (to_z w64) (sym (sign-bits s m (sign-most s m t))) ∙ to_z-of_z w64 (with_sign s m) (record { sfits = ltb-true (mag (with_sign s m)) (2 ^ 63) t })

pub none-held : (z : ℤ) (t : Bool) → t ≡ in_range z → t ≡ false → 0 ≡ fitted z
unfolding fitted
none-held z t d e = rw (sym d ∙ e)

pub ruleset places = (sum_low, sum-high, difference_low, difference-high, sum-held, difference-held, none-held, times-held, times-fits, product-fits, product-held)
