-- A decimal beside the floats: between which two patterns it lies, and what that settles.
use mathlib.Core.Path.{◌≡◌, refl, sym, ◌∙◌, ap}
use mathlib.Core.Bool.{Bool, true, false, cond}
use Rattle.std.proofs.Common.{Ok, Err}
use Prim.Native.Nat.{ℕ, suc, ◌+◌, ◌-◌, ◌*◌, ◌/◌, ◌%◌, ◌^◌, ◌≤◌, ◌<◌}
use native.Mathlib.Nat.{add-mul, mul_assoc, mul_right_comm, mul-le-mul_right, mul-lt-mul_of_pos_right, one-mul, mul-one, one-le-pow, pow-suc, eq-zero-or-pos}
use native.Mathlib.Decide.{dec_lt}
use native.Mathlib.Omega.{arith}
use mathlib.Core.Logic.{inl, inr}
use lib.Dec.{eqb}
use lib.Pow.{pow_pos, pow_mono, pow-add}
use borrow.Author.Rules.{rules}
use borrow.Author.Tests.{lt-ltb, le-ltb, eq-eqb, ne_eqb, eqb-true, eqb-false}
use Rattle.float.specs.Bits.{units, infinity}
use Rattle.float.specs.Float.{rounded, with_sign_bit, Nearest}
use Rattle.float.proofs.Nearest.{rounded-nearest, nearest-unique, units_mono, units-strict}
use Rattle.text.specs.Decimal.{settled, decimal_of}
use Rattle.text.specs.declared.decimal.DecimalError.TheVariants.{Between}

-- ---- the float of a number of steps between two patterns

module _ (num den q : ℕ) (some : 0 < den) (small : q < infinity) (above : units q * den ≤ num) (below : num < units (q + 1) * den) where
  equal-nearest : units q * den ≡ num → Nearest num den q
  equal-nearest e =
      record {
        top = omega arith;
        above_lower = λ z. omega (arith, add-mul (units (q - 1)) (units q) den, mul-le-mul_right den (units_mono (q - 1) q (omega arith)));
        on_lower = λ z h. absurd (omega (arith, add-mul (units (q - 1)) (units q) den, mul-lt-mul_of_pos_right (units-strict (q - 1) q (omega arith)) some));
        below_upper = λ z. omega (arith, add-mul (units q) (units (q + 1)) den);
        on_upper = λ z h. absurd (omega (arith, add-mul (units q) (units (q + 1)) den));
      }

  nearest-is : units q * den ≡ num → rounded num den ≡ q
  nearest-is e = nearest-unique num den (rounded num den) q some (rounded-nearest num den some) (equal-nearest e)

  -- strictly between the two, the nearest is one of them
  module _ (l : units q * den < num) where
    not-below : rounded num den < q → ⊥
    not-below h =
        let r = rounded num den in
        omega (arith, (rounded-nearest num den some).below_upper (omega arith), add-mul (units r) (units (r + 1)) den, mul-le-mul_right den (units_mono r q (omega arith)), mul-le-mul_right den (units_mono (r + 1) q (omega arith)))

    not-above : q + 1 < rounded num den → ⊥
    not-above h =
        let r = rounded num den in
        omega (arith, (rounded-nearest num den some).above_lower (omega arith), add-mul (units (r - 1)) (units r) den, mul-le-mul_right den (units_mono (q + 1) (r - 1) (omega arith)), mul-le-mul_right den (units_mono (q + 1) r (omega arith)))

    lower : (neg : Bool) → Err (Between (with_sign_bit neg q)) ≡ settled neg num den q
    unfolding settled
    lower neg = rw (ne_eqb (units q * den) num (λ e. omega arith), le-ltb num (units q * den) above)

    upper : (neg : Bool) → Err (Between (with_sign_bit neg q)) ≡ settled neg num den (q + 1)
    unfolding settled
    upper neg =
        let e : q + 1 - 1 ≡ q = omega arith in
        rw (ne_eqb (units (q + 1) * den) num (λ e. omega arith), lt-ltb num (units (q + 1) * den) below, e)

    settles-between : (neg : Bool) → Err (Between (with_sign_bit neg q)) ≡ settled neg num den (rounded num den)
    settles-between neg =
        elim (dec_lt q (rounded num den)) [
          | yes h ↦ let e : q + 1 ≡ rounded num den = omega (arith, not-above) in upper neg ∙ ap (settled neg num den) e
          | no h ↦ let e : q ≡ rounded num den = omega (arith, not-below) in lower neg ∙ ap (settled neg num den) e
        ]

  settles-is : (neg : Bool) → units q * den ≡ num → Ok (with_sign_bit neg q) ≡ settled neg num den (rounded num den)
  unfolding settled
  settles-is neg e = rw (nearest-is e, eq-eqb (units q * den) num e)

  -- `exact` says whether the two are equal
  settles : (neg exact : Bool) → exact ≡ eqb (units q * den) num → cond exact (Ok (with_sign_bit neg q)) (Err (Between (with_sign_bit neg q))) ≡ settled neg num den (rounded num den)
  settles neg true h = settles-is neg (eqb-true (units q * den) num (sym h))
  settles neg false h = let n = eqb-false (units q * den) num (sym h) in settles-between (omega (arith, n)) neg

-- ---- the steps of a pattern: e * 2^52 + m stands for m * 2^e

units-at : (m e : ℕ) → m ≤ 2 ^ 53 → (0 < e → 2 ^ 52 ≤ m) → units (e * 2 ^ 52 + m) ≡ m * 2 ^ e
units-at m e most least =
    elim (dec_lt m (2 ^ 52)) [
      | yes l ↦
          let z : e ≡ 0 = elim (eq-zero-or-pos e) [ inl k ↦ k | inr p ↦ absurd (omega (arith, least p)) ] in
          let f : (e * 2 ^ 52 + m) / 2 ^ 52 ≡ 0 = omega arith in
          let g : (e * 2 ^ 52 + m) % 2 ^ 52 ≡ m = omega arith in
          rw (f, g, z) (sym (mul-one m))
      | no n ↦
          elim (dec_lt m (2 ^ 53)) [
            | yes l ↦
                let f : (e * 2 ^ 52 + m) / 2 ^ 52 ≡ suc e = omega arith in
                let g : (e * 2 ^ 52 + m) % 2 ^ 52 ≡ m - 2 ^ 52 = omega arith in
                rw (f, g) (ap (λ (x : ℕ). x * 2 ^ e) (omega arith))
            | no l ↦
                let z : m ≡ 2 ^ 53 = omega arith in
                let f : (e * 2 ^ 52 + m) / 2 ^ 52 ≡ suc (suc e) = omega arith in
                let g : (e * 2 ^ 52 + m) % 2 ^ 52 ≡ 0 = omega arith in
                rw (f, g, z, pow-suc 2 e) (omega arith)
          ]
    ]

-- ---- n / 10^k times u steps, where n lies from a * 10^k up to b * 10^k, and a * u and b * u are floats

module _ (k q n u a b num : ℕ) (pos : 0 < u) (is : num ≡ n * u) (lo : units q ≡ a * u) (hi : units (q + 1) ≡ b * u) (from : a * 10 ^ k ≤ n) (to : n < b * 10 ^ k) (small : q < infinity) where
  scaled-lo : units q * 10 ^ k ≡ a * 10 ^ k * u
  scaled-lo = rw lo (mul_right_comm a u (10 ^ k))

  scaled-hi : units (q + 1) * 10 ^ k ≡ b * 10 ^ k * u
  scaled-hi = rw hi (mul_right_comm b u (10 ^ k))

  same_test : eqb (a * 10 ^ k) n ≡ eqb (units q * 10 ^ k) num
  same_test =
      elim (dec_lt (a * 10 ^ k) n) [
        | yes h ↦
            let l : a * 10 ^ k * u < n * u = mul-lt-mul_of_pos_right h pos in
            ne_eqb (a * 10 ^ k) n (λ e. omega arith) ∙ sym (ne_eqb (units q * 10 ^ k) num (λ e. omega (arith, scaled-lo)))
        | no h ↦
            let e : a * 10 ^ k ≡ n = omega arith in
            eq-eqb (a * 10 ^ k) n e ∙ sym (eq-eqb (units q * 10 ^ k) num (scaled-lo ∙ ap (λ (x : ℕ). x * u) e ∙ sym is))
      ]

  pub lies : (neg exact : Bool) → exact ≡ eqb (a * 10 ^ k) n → cond exact (Ok (with_sign_bit neg q)) (Err (Between (with_sign_bit neg q))) ≡ settled neg num (10 ^ k) (rounded num (10 ^ k))
  lies neg exact h =
      let l : a * 10 ^ k * u ≤ n * u = mul-le-mul_right u from in
      let g : n * u < b * 10 ^ k * u = mul-lt-mul_of_pos_right to pos in
      let p : 1 ≤ 10 ^ k = one-le-pow k 10 (omega arith) in
      settles num (10 ^ k) q (omega arith) small (omega (arith, scaled-lo)) (omega (arith, scaled-hi)) neg exact (h ∙ same_test)

-- ---- binary digits of the fraction, one at a time. `m` and the digits `f` are what the number has become, `e` how many steps `m` counts

double-step : (n e : ℕ) → 0 < e → n * 2 * 2 ^ (e - 1) ≡ n * 2 ^ e
double-step n e h =
    let z : e ≡ suc (e - 1) = omega arith in
    sym (ap (λ (x : ℕ). n * 2 ^ x) z ∙ ap (λ (x : ℕ). n * x) (pow-suc 2 (e - 1)) ∙ sym (mul_assoc n (2 ^ (e - 1)) 2) ∙ mul_right_comm n (2 ^ (e - 1)) 2)

pub narrow-more :
    (m e k v w c num : ℕ) → (m * 10 ^ k + v) * 2 ^ e ≡ num → 0 < e → c * 10 ^ k + w ≡ v * 2 → ((2 * m + c) * 10 ^ k + w) * 2 ^ (e - 1) ≡ num
narrow-more m e k v w c num inv h d =
    let a : (2 * m + c) * 10 ^ k + w ≡ (m * 10 ^ k + v) * 2 = omega (arith, add-mul (2 * m) c (10 ^ k), mul_assoc 2 m (10 ^ k)) in
    ap (λ (x : ℕ). x * 2 ^ (e - 1)) a ∙ double-step (m * 10 ^ k + v) e h ∙ inv

zero_test : (a v : ℕ) → eqb v 0 ≡ eqb a (a + v)
zero_test a v = elim (dec_lt 0 v) [ yes h ↦ ne_eqb v 0 (λ e. omega arith) ∙ sym (ne_eqb a (a + v) (λ e. omega arith)) | no h ↦ eq-eqb v 0 (omega arith) ∙ sym (eq-eqb a (a + v) (omega arith)) ]

module _ (neg : Bool) (k n m e v : ℕ) (inv : (m * 10 ^ k + v) * 2 ^ e ≡ n * 2 ^ 1074) (high : m < 2 ^ 53) (few : e ≤ 1074) (low : 0 < e → 2 ^ 52 ≤ m) (less : v < 10 ^ k) where
  pub narrow-done : (exact : Bool) → exact ≡ eqb v 0 → cond exact (Ok (with_sign_bit neg (e * 2 ^ 52 + m))) (Err (Between (with_sign_bit neg (e * 2 ^ 52 + m)))) ≡ decimal_of neg n k
  unfolding decimal_of
  narrow-done exact h =
      let next : e * 2 ^ 52 + m + 1 ≡ e * 2 ^ 52 + (m + 1) = omega arith in
      lies k (e * 2 ^ 52 + m) (m * 10 ^ k + v) (2 ^ e) m (m + 1) (n * 2 ^ 1074) (pow_pos e) (sym inv) (units-at m e (omega arith) low) (ap units next ∙ units-at (m + 1) e (omega arith) (λ p. omega (arith, low p))) (omega arith) (omega (arith, add-mul m 1 (10 ^ k), one-mul (10 ^ k))) (omega arith) neg exact (h ∙ zero_test (m * 10 ^ k) v)

-- ---- a whole part of more than 53 bits: m of them, the last worth p

pub record Halving (whole m p e : ℕ) : Type 0 where
  pub floor : m * p ≤ whole
  pub ceiling : whole < (m + 1) * p
  pub worth : p ≡ 2 ^ (e - 1074)
  pub least : 2 ^ 52 ≤ m
  pub past : 1074 ≤ e

pub halving-none : (whole : ℕ) → 2 ^ 53 ≤ whole → Halving whole whole 1 1074
halving-none whole h = record { floor = omega arith; ceiling = omega arith; worth = refl; least = omega arith; past = omega arith }

module _ {whole m p e : ℕ} (inv : Halving whole m p e) (fits : whole < 2 ^ 64) where
  pub halving-small : p < 4096
  halving-small = omega (arith, inv.floor, mul-le-mul_right p inv.least)

  pub halving-few : e ≤ 1085
  halving-few = elim (dec_lt 1085 e) [ yes h ↦ absurd (omega (arith, halving-small, inv.worth, pow_mono {i = 12} {j = e - 1074} (omega arith))) | no h ↦ omega arith ]

  pub halving-more : 2 ^ 53 ≤ m → Halving whole (m / 2) (p * 2) (e + 1)
  halving-more h =
      let a : m / 2 * (p * 2) ≡ m / 2 * 2 * p = sym (mul_right_comm (m / 2) 2 p ∙ mul_assoc (m / 2) p 2) in
      let b : (m / 2 + 1) * (p * 2) ≡ (m / 2 + 1) * 2 * p = sym (mul_right_comm (m / 2 + 1) 2 p ∙ mul_assoc (m / 2 + 1) p 2) in
      let c : m / 2 * 2 * p ≤ m * p = mul-le-mul_right p (omega arith) in
      let d : (m + 1) * p ≤ (m / 2 + 1) * 2 * p = mul-le-mul_right p (omega arith) in
      let z : e + 1 - 1074 ≡ suc (e - 1074) = omega (arith, inv.past) in
      record {
        floor = omega (arith, inv.floor);
        ceiling = omega (arith, inv.ceiling);
        worth = rw (z, pow-suc 2 (e - 1074)) (ap (λ (x : ℕ). x * 2) inv.worth);
        least = omega arith;
        past = omega (arith, inv.past);
      }

  module _ (neg : Bool) (k v : ℕ) (high : m < 2 ^ 53) (less : v < 10 ^ k) where
    steps : (x : ℕ) → x * 2 ^ e ≡ x * p * 2 ^ 1074
    steps x =
        let z : e ≡ e - 1074 + 1074 = omega (arith, inv.past) in
        ap (λ (y : ℕ). x * 2 ^ y) z ∙ ap (λ (y : ℕ). x * y) (pow-add 2 (e - 1074) 1074 ∙ ap (λ (y : ℕ). y * 2 ^ 1074) (sym inv.worth)) ∙ sym (mul_assoc x p (2 ^ 1074))

    done : (exact : Bool) → exact ≡ eqb (m * p * 10 ^ k) (whole * 10 ^ k + v) → cond exact (Ok (with_sign_bit neg (e * 2 ^ 52 + m))) (Err (Between (with_sign_bit neg (e * 2 ^ 52 + m)))) ≡ decimal_of neg (whole * 10 ^ k + v) k
    unfolding decimal_of
    done exact h =
        let next : e * 2 ^ 52 + m + 1 ≡ e * 2 ^ 52 + (m + 1) = omega arith in
        let lo : m * p * 10 ^ k ≤ whole * 10 ^ k = mul-le-mul_right (10 ^ k) inv.floor in
        let hi : (whole + 1) * 10 ^ k ≤ (m + 1) * p * 10 ^ k = mul-le-mul_right (10 ^ k) (omega (arith, inv.ceiling)) in
        lies k (e * 2 ^ 52 + m) (whole * 10 ^ k + v) (2 ^ 1074) (m * p) ((m + 1) * p) ((whole * 10 ^ k + v) * 2 ^ 1074) (pow_pos 1074) refl (units-at m e (omega arith) (λ z. inv.least) ∙ steps m) (ap units next ∙ units-at (m + 1) e (omega arith) (λ z. omega (arith, inv.least)) ∙ steps (m + 1)) (omega arith) (omega (arith, add-mul whole 1 (10 ^ k), one-mul (10 ^ k))) (omega (arith, halving-few)) neg exact h

    pub wide-equal : (exact : Bool) → m * p ≡ whole → exact ≡ eqb v 0 → cond exact (Ok (with_sign_bit neg (e * 2 ^ 52 + m))) (Err (Between (with_sign_bit neg (e * 2 ^ 52 + m)))) ≡ decimal_of neg (whole * 10 ^ k + v) k
    wide-equal exact q h = done exact (h ∙ zero_test (whole * 10 ^ k) v ∙ sym (ap (λ (x : ℕ). eqb (x * 10 ^ k) (whole * 10 ^ k + v)) q))

    pub wide-between : (m * p ≡ whole → ⊥) → Err (Between (with_sign_bit neg (e * 2 ^ 52 + m))) ≡ decimal_of neg (whole * 10 ^ k + v) k
    wide-between q =
        let l : m * p < whole = omega (arith, inv.floor) in
        let g : 1 ≤ 10 ^ k = one-le-pow k 10 (omega arith) in
        done false (sym (ne_eqb (m * p * 10 ^ k) (whole * 10 ^ k + v) (λ e. omega (arith, mul-lt-mul_of_pos_right l g))))

-- ---- the answer

pub sign-plus : {neg : Bool} (q : ℕ) → neg ≡ true → 9223372036854775808 + q ≡ with_sign_bit neg q
sign-plus {neg} q h = rw h

pub sign-none : {neg : Bool} (q : ℕ) → neg ≡ false → q ≡ with_sign_bit neg q
sign-none {neg} q h = rw h (omega arith)

module _ {exact : Bool} {p x : ℕ} (h : p ≡ x) where
  pub says_is : exact ≡ true → Ok p ≡ cond exact (Ok x) (Err (Between x))
  says_is e = rw (e, h)

  pub says-between : exact ≡ false → Err (Between p) ≡ cond exact (Ok x) (Err (Between x))
  says-between e = rw (e, h)

pub ruleset answers = (sign-plus, sign-none, says_is, says-between, rules)
