-- An Int beyond 2^53 stands to a Float as it stands to the place of the Float among the Ints: sizes in steps of 2^-1074 are compared after
-- a common factor is taken out, and the patterns of 2^52 and 2^63 bound the sizes of floats.
use Rattle.std.specs.Prelude.{Some, None}
use mathlib.Core.Path.{◌≡◌, refl, sym, ap, ◌∙◌, subst}
use mathlib.Core.Bool.{Bool, true, false, cond}
use Prim.Native.Nat.{ℕ, zero, suc, ◌+◌, ◌-◌, ◌*◌, ◌/◌, ◌%◌, ◌^◌, ◌≤◌, ◌<◌}
use native.Mathlib.Nat.{le_trans, lt_of_le_of_lt, lt_of_lt_of_le, mul_assoc, mul-one, zero-mul, mul-le-mul_right, mul-le-mul_left, mul-lt-mul_of_pos_right, mod-eq_of_lt}
use native.Mathlib.Omega.{arith}
use lib.Dec.{ltb, eqb}
use lib.IntN.{ℤ, pos, negsuc, nat_abs}
use lib.Pow.{pow_pos, pow_mono, pow-add}
use mir.Syntax.{w64}
use mir.Val.{to_z, SFits}
use mir.ValLaws.{to_z_pos, to_z-neg}
use borrow.Author.Tests.{lt-ltb, le-ltb, le-leb, ltb-true, ltb-false, leb-true, leb-false, eqb-true}
use Rattle.int64.specs.Sign.{negative, with_sign}
use Rattle.int64.specs.Patterns.{bits_of}
use Rattle.int64.specs.Order.{Order, less, equal, greater, order_z}
use Rattle.int64.proofs.sign.Laws.{never}
use Rattle.float.specs.Bits.{nan, inf, fin, sign, rest, infinity, is_nan, scaled, units, read}
use Rattle.float.specs.Order.{order}
use Rattle.float.specs.Standing.{exactly, standing}
use Rattle.float.specs.Places.{two52, two63, is_far, whole_part, place_of, stands_by}

abbrev K : ℕ
K = 2 ^ 1074

-- ---- two numbers by sign and size

abbrev beside : Bool → ℕ → Bool → ℕ → Order
beside s m t u = order_z (with_sign s m) (with_sign t u)

bigger : (s t : Bool) (m u : ℕ) → u < m → beside s m t u ≡ cond s less greater
unfolding order_z with_sign
bigger false false m u h = let k : u ≤ m = omega arith in rw (le-ltb m u k, lt-ltb u m h) refl
bigger false true zero u h = absurd (omega arith)
bigger false true (suc m) zero h = let k : 0 ≤ suc m = omega arith in rw (le-ltb (suc m) 0 k, lt-ltb 0 (suc m) h) refl
bigger false true (suc m) (suc u) h = refl
bigger true false zero u h = absurd (omega arith)
bigger true false (suc m) u h = refl
bigger true true zero u h = absurd (omega arith)
bigger true true (suc m) zero h = refl
bigger true true (suc m) (suc u) h = let k : u < m = omega arith in rw (lt-ltb u m k) refl

smaller : (s t : Bool) (m u : ℕ) → m < u → beside s m t u ≡ cond t greater less
unfolding order_z with_sign
smaller false false m u h = rw (lt-ltb m u h) refl
smaller false true m zero h = absurd (omega arith)
smaller false true m (suc u) h = refl
smaller true false zero zero h = absurd (omega arith)
smaller true false zero (suc u) h = rw (lt-ltb 0 (suc u) h) refl
smaller true false (suc m) u h = refl
smaller true true zero zero h = absurd (omega arith)
smaller true true zero (suc u) h = refl
smaller true true (suc m) zero h = absurd (omega arith)
smaller true true (suc m) (suc u) h = let k : m < u = omega arith in let l : m ≤ u = omega arith in rw (le-ltb u m l, lt-ltb m u k) refl

-- of unlike signs the sizes decide nothing
unlike : (m u : ℕ) → 0 < m → beside true m false u ≡ less
unfolding order_z with_sign
unlike zero u h = absurd (omega arith)
unlike (suc m) u h = refl

same_size : (s : Bool) (m : ℕ) → beside s m s m ≡ equal
unfolding order_z with_sign
same_size false m = let k : m ≤ m = omega arith in rw (le-ltb m m k) refl
same_size true zero = refl
same_size true (suc m) = let k : m ≤ m = omega arith in rw (le-ltb m m k) refl

-- a common factor decides nothing
as-less : (s t : Bool) (a b k : ℕ) → 0 < k → a < b → beside s (a * k) t (b * k) ≡ beside s a t b
as-less s t a b k h l = smaller s t (a * k) (b * k) (mul-lt-mul_of_pos_right l h) ∙ sym (smaller s t a b l)

as-more : (s t : Bool) (a b k : ℕ) → 0 < k → b < a → beside s (a * k) t (b * k) ≡ beside s a t b
as-more s t a b k h l = bigger s t (a * k) (b * k) (mul-lt-mul_of_pos_right l h) ∙ sym (bigger s t a b l)

opposite : (m : ℕ) → 0 < m → beside false m true m ≡ greater
unfolding order_z with_sign
opposite zero h = absurd (omega arith)
opposite (suc m) h = refl

product : (a k : ℕ) → 0 < k → 0 < a → 0 < a * k
product a k h g = subst (λ (x : ℕ). x < a * k) (zero-mul k) (mul-lt-mul_of_pos_right g h)

nothing-at : (s t : Bool) (k : ℕ) → beside s (0 * k) t (0 * k) ≡ beside s 0 t 0
nothing-at s t k = rw (zero-mul k) refl

as_same : (s t : Bool) (a k : ℕ) → 0 < k → beside s (a * k) t (a * k) ≡ beside s a t a
as_same false false a k h = same_size false (a * k) ∙ sym (same_size false a)
as_same true true a k h = same_size true (a * k) ∙ sym (same_size true a)
as_same true false zero k h = nothing-at true false k
as_same true false (suc a) k h = unlike (suc a * k) (suc a * k) (product (suc a) k h (omega arith)) ∙ sym (unlike (suc a) (suc a) (omega arith))
as_same false true zero k h = nothing-at false true k
as_same false true (suc a) k h = opposite (suc a * k) (product (suc a) k h (omega arith)) ∙ sym (opposite (suc a) (omega arith))

factor : (s t : Bool) (a b k : ℕ) → 0 < k → beside s (a * k) t (b * k) ≡ beside s a t b
factor s t a b k h = go (ltb a b) (ltb b a) refl refl
  where
    go : (x y : Bool) → ltb a b ≡ x → ltb b a ≡ y → beside s (a * k) t (b * k) ≡ beside s a t b
    go true y e f = as-less s t a b k h (ltb-true a b e)
    go false true e f = as-more s t a b k h (ltb-true b a f)
    go false false e f =
        let p : b ≤ a = ltb-false a b e in
        let q : a ≤ b = ltb-false b a f in
        let z : b ≡ a = omega arith in
        rw z (as_same s t a k h)

-- an integer by its sign and size
whole_is : (n : ℤ) → with_sign (negative n) (nat_abs n) ≡ n
unfolding with_sign negative
whole_is (pos n) = refl
whole_is (negsuc n) = refl

-- ---- sizes of floats

-- below the pattern of 2^52 a float is less than 2^52
low-units : (r : ℕ) → r < two52 → units r < 2 ^ 52 * K
low-units r h = go (r / 2 ^ 52) (r % 2 ^ 52) (omega arith) (omega arith)
  where
    go : (e t : ℕ) → e ≤ 1074 → t < 2 ^ 52 → scaled e t < 2 ^ 52 * K
    go zero t a b = lt_of_lt_of_le b (subst (λ (x : ℕ). x ≤ 2 ^ 52 * K) (mul-one (2 ^ 52)) (mul-le-mul_left (2 ^ 52) (pow_pos 1074)))
    go (suc e) t a b =
        let p : (2 ^ 52 + t) * 2 ^ e ≤ (2 ^ 52 + t) * 2 ^ 1073 = mul-le-mul_left (2 ^ 52 + t) (pow_mono (let q : e ≤ 1073 = omega arith in q)) in
        let q : (2 ^ 52 + t) * 2 ^ 1073 < 2 ^ 53 * 2 ^ 1073 = mul-lt-mul_of_pos_right (let z : 2 ^ 52 + t < 2 ^ 53 = omega arith in z) (pow_pos 1073) in
        let z : 2 ^ 53 * 2 ^ 1073 ≡ 2 ^ 52 * K = refl in
        subst (λ (x : ℕ). (2 ^ 52 + t) * 2 ^ e < x) z (lt_of_le_of_lt p q)

-- above the pattern of 2^63 a float is more than 2^63
high-far : (e t : ℕ) → 1086 ≤ e → 2 ^ 63 * K < (2 ^ 52 + t) * 2 ^ e
high-far e t h =
    let p : 2 ^ 52 * 2 ^ 1086 ≤ 2 ^ 52 * 2 ^ e = mul-le-mul_left (2 ^ 52) (pow_mono h) in
    let q : 2 ^ 52 * 2 ^ e ≤ (2 ^ 52 + t) * 2 ^ e = mul-le-mul_right (2 ^ e) (let z : 2 ^ 52 ≤ 2 ^ 52 + t = omega arith in z) in
    lt_of_lt_of_le (ltb-true (2 ^ 63 * K) (2 ^ 52 * 2 ^ 1086) refl) (le_trans p q)

high-near : (t : ℕ) → 0 < t → 2 ^ 63 * K < (2 ^ 52 + t) * 2 ^ 1085
high-near t h = mul-lt-mul_of_pos_right (let z : 2 ^ 52 < 2 ^ 52 + t = omega arith in z) (pow_pos 1085)

high-by : (b : Bool) (e t : ℕ) → ltb 1085 e ≡ b → two63 < suc e * 2 ^ 52 + t → t < 2 ^ 52 → 2 ^ 63 * K < (2 ^ 52 + t) * 2 ^ e
high-by true e t b a l = high-far e t (ltb-true 1085 e b)
high-by false e t b a l =
    let u : e ≤ 1085 = ltb-false 1085 e b in
    let z : e ≡ 1085 = omega arith in
    let some : 0 < t = omega arith in
    rw z (high-near t some)

high-of : (e t : ℕ) → two63 < e * 2 ^ 52 + t → t < 2 ^ 52 → 2 ^ 63 * K < scaled e t
high-of zero t a l = absurd (omega arith)
high-of (suc e) t a l = high-by (ltb 1085 e) e t refl a l

high-units : (r : ℕ) → two63 < r → 2 ^ 63 * K < units r
high-units r h = high-of (r / 2 ^ 52) (r % 2 ^ 52) (omega arith) (omega arith)

-- between the two it is an integer
mid-units : (r : ℕ) → two52 ≤ r → units r ≡ (2 ^ 52 + r % 2 ^ 52) * 2 ^ (r / 2 ^ 52 - 1075) * K
mid-units r h = go (r / 2 ^ 52) (r % 2 ^ 52) (omega arith)
  where
    go : (e t : ℕ) → 1075 ≤ e → scaled e t ≡ (2 ^ 52 + t) * 2 ^ (e - 1075) * K
    go zero t a = absurd (omega arith)
    go (suc e) t a =
        let p : e ≡ (suc e - 1075) + 1074 = omega arith in
        ap (λ (x : ℕ). (2 ^ 52 + t) * 2 ^ x) p ∙ ap (λ (x : ℕ). (2 ^ 52 + t) * x) (pow-add 2 (suc e - 1075) 1074) ∙ sym (mul_assoc (2 ^ 52 + t) (2 ^ (suc e - 1075)) K)

-- ---- the rule

size-limit : (n : ℤ) → SFits w64 n → nat_abs n ≤ 2 ^ 63
size-limit (pos n) f = omega (arith, f.sfits)
size-limit (negsuc n) f = omega (arith, f.sfits)

-- a size past 2^63 is past every Int
past_all : (n : ℤ) (s : Bool) (u : ℕ) → SFits w64 n → 2 ^ 63 * K < u → beside (negative n) (nat_abs n * K) s u ≡ cond s greater less
past_all n s u f h = smaller (negative n) s (nat_abs n * K) u (lt_of_le_of_lt (mul-le-mul_right K (size-limit n f)) h)

-- 2^63 itself is an Int only with a minus sign
past-limit : (n : ℤ) → SFits w64 n → beside (negative n) (nat_abs n * K) false (2 ^ 63 * K) ≡ less
unfolding negative
past-limit (pos n) f = smaller false false (n * K) (2 ^ 63 * K) (mul-lt-mul_of_pos_right f.sfits (pow_pos 1074))
past-limit (negsuc n) f = unlike (suc n * K) (2 ^ 63 * K) (product (suc n) K (pow_pos 1074) (omega arith))

-- nearer to 0 than the Int
inside : (n : ℤ) (s : Bool) (u : ℕ) → 2 ^ 53 < nat_abs n → u < 2 ^ 52 * K → beside (negative n) (nat_abs n * K) s u ≡ order_z n (pos 0)
unfolding with_sign
inside n s u w h =
    let p : 2 ^ 52 * K ≤ nat_abs n * K = mul-le-mul_right K (let z : 2 ^ 52 ≤ nat_abs n = omega arith in z) in
    let z : 0 < nat_abs n = omega arith in
    bigger (negative n) s (nat_abs n * K) u (lt_of_lt_of_le h p)
    ∙ sym (bigger (negative n) false (nat_abs n) 0 z)
    ∙ ap (λ (y : ℤ). order_z y (pos 0)) (whole_is n)

-- an integer
alike : (n : ℤ) (s : Bool) (m u : ℕ) → u ≡ m * K → beside (negative n) (nat_abs n * K) s u ≡ order_z n (with_sign s m)
alike n s m u e = rw e (factor (negative n) s (nat_abs n) m K (pow_pos 1074) ∙ ap (λ (y : ℤ). order_z y (with_sign s m)) (whole_is n))

-- ---- the integer that a float from 2^52 up to 2^63 is

pub whole_below : (r : ℕ) → two52 ≤ r → r < two63 → whole_part r < 2 ^ 63
whole_below r h k =
    let a : r / 2 ^ 52 - 1075 ≤ 10 = omega arith in
    let b : 2 ^ 52 + r % 2 ^ 52 < 2 ^ 53 = omega arith in
    let p : whole_part r ≤ (2 ^ 52 + r % 2 ^ 52) * 2 ^ 10 = mul-le-mul_left (2 ^ 52 + r % 2 ^ 52) (pow_mono a) in
    let q : (2 ^ 52 + r % 2 ^ 52) * 2 ^ 10 < 2 ^ 53 * 2 ^ 10 = mul-lt-mul_of_pos_right b (pow_pos 10) in
    lt_of_le_of_lt p q

pub whole-limit : (r : ℕ) → two52 ≤ r → r ≤ two63 → whole_part r ≤ 2 ^ 63
whole-limit r h k = go (ltb r two63) refl
  where
    go : (b : Bool) → ltb r two63 ≡ b → whole_part r ≤ 2 ^ 63
    go true e = let l : whole_part r < 2 ^ 63 = whole_below r h (ltb-true r two63 e) in omega arith
    go false e = let z : r ≡ two63 = omega (arith, ltb-false r two63 e) in rw z (omega arith)

-- its pattern, which 2^63 has only with a minus sign
bits-read : (s : Bool) (m : ℕ) → m ≤ 2 ^ 63 → (s ≡ false → m < 2 ^ 63) → to_z w64 (bits_of s m) ≡ with_sign s m
unfolding with_sign bits_of
bits-read false m h k = to_z_pos w64 m (k refl)
bits-read true zero h k = refl
bits-read true (suc m) h k = ap (to_z w64) (mod-eq_of_lt (let l : 2 ^ 64 - suc m < 2 ^ 64 = omega arith in l)) ∙ to_z-neg w64 m (omega arith)

-- ---- a finite float, by its size

module _ (n : ℤ) (s : Bool) (r : ℕ) (f : SFits w64 n) where
  far-low : is_far s r ≡ true → two63 ≤ r
  far-low e = go s e
    where
      go : (s : Bool) → is_far s r ≡ true → two63 ≤ r
      go true h = let l : two63 < r = ltb-true two63 r h in omega arith
      go false h = leb-true two63 r h

  far-finite : is_far s r ≡ true → beside (negative n) (nat_abs n * K) s (units r) ≡ cond s greater less
  far-finite e = go (ltb two63 r) refl s e
    where
      go : (b : Bool) → ltb two63 r ≡ b → (s : Bool) → is_far s r ≡ true → beside (negative n) (nat_abs n * K) s (units r) ≡ cond s greater less
      go true d s h = past_all n s (units r) f (high-units r (ltb-true two63 r d))
      go false d true h = absurd (let l : two63 < r = ltb-true two63 r h in omega (arith, ltb-false two63 r d))
      go false d false h =
          let l : two63 ≤ r = leb-true two63 r h in
          let z : r ≡ two63 = omega (arith, ltb-false two63 r d) in
          rw z (past-limit n f)

  near-limit : is_far s r ≡ false → (r ≤ two63) × (s ≡ false → r < two63)
  near-limit e = go s e
    where
      go : (s : Bool) → is_far s r ≡ false → (r ≤ two63) × (s ≡ false → r < two63)
      go true h = (ltb-false two63 r h, λ k. absurd (let z : ◌≡◌ {A = ℕ} 0 1 = cc in omega arith))
      go false h = let l : r < two63 = leb-false two63 r h in (omega arith, λ k. l)

  near-finite : 2 ^ 53 < nat_abs n → is_far s r ≡ false → (b : Bool) → ltb r two52 ≡ b → beside (negative n) (nat_abs n * K) s (units r) ≡ order_z n (to_z w64 (cond b 0 (bits_of s (whole_part r))))
  near-finite w e true d = inside n s (units r) w (low-units r (ltb-true r two52 d))
  near-finite w e false d =
      let l : two52 ≤ r = ltb-false r two52 d in
      let m = near-limit e in
      alike n s (whole_part r) (units r) (mid-units r l)
      ∙ ap (order_z n) (sym (bits-read s (whole_part r) (whole-limit r l m.0) (λ k. whole_below r l (m.1 k))))

-- 0 is an Int too
zero-fits : SFits w64 (pos 0)
zero-fits = record { sfits = omega arith }

-- the infinities and the NaNs are past every Int
large-far : (s : Bool) (r : ℕ) → infinity ≤ r → is_far s r ≡ true
large-far true r h = lt-ltb two63 r (omega (arith, h))
large-far false r h = le-leb two63 r (omega (arith, h))

-- ---- the rule

placed : (n : ℤ) (q : ℕ) → SFits w64 n → 2 ^ 53 < nat_abs n → (a b c d : Bool) → is_nan q ≡ a → eqb (rest q) infinity ≡ b → is_far (sign q) (rest q) ≡ c → ltb (rest q) two52 ≡ d →
    order (exactly n) (cond a nan (cond b (inf (sign q)) (fin (sign q) (units (rest q)))))
    ≡ cond c (order (exactly (pos 0)) (cond a nan (cond b (inf (sign q)) (fin (sign q) (units (rest q)))))) (order_z n (to_z w64 (cond d 0 (bits_of (sign q) (whole_part (rest q))))))
unfolding order
placed n q f w true b true d i j k l = refl
placed n q f w true b false d i j k l = let u : infinity < rest q = ltb-true infinity (rest q) i in never (sym (large-far (sign q) (rest q) (omega (arith, u))) ∙ k)
placed n q f w false true true d i j k l = refl
placed n q f w false true false d i j k l = let u : rest q ≡ infinity = eqb-true (rest q) infinity j in never (sym (large-far (sign q) (rest q) (omega (arith, u))) ∙ k)
placed n q f w false false true d i j k l = far-finite n (sign q) (rest q) f k ∙ sym (far-finite (pos 0) (sign q) (rest q) zero-fits k)
placed n q f w false false false d i j k l = near-finite n (sign q) (rest q) f w k d l

pub wide-stands : (n : ℤ) (q : ℕ) → SFits w64 n → 2 ^ 53 < nat_abs n → standing n q ≡ stands_by n q (place_of q)
unfolding standing place_of read
wide-stands n q f w =
    placed n q f w (is_nan q) (eqb (rest q) infinity) (is_far (sign q) (rest q)) (ltb (rest q) two52) refl refl refl refl
    ∙ by (is_far (sign q) (rest q)) (ltb (rest q) two52)
  where
    by : (c d : Bool) → cond c (standing (pos 0) q) (order_z n (to_z w64 (cond d 0 (bits_of (sign q) (whole_part (rest q))))))
        ≡ stands_by n q (cond c None (cond d (Some 0) (Some (bits_of (sign q) (whole_part (rest q))))))
    by true d = refl
    by false true = refl
    by false false = refl
