-- What each operator answers, as the code finds it.
use Rattle.std.proofs.Common.{◌≡◌, ℕ, ◌-◌, ◌*◌, ◌%◌, ◌^◌, ◌<◌, ◌≤◌, Bool, true, false, cond, ℤ, pos, negsuc, ◌*ℤ◌, nat_abs, sym, refl, ap, ◌∙◌, ap₂, lt_of_le_of_lt, mod-lt, arith, w64, Fits, SFits, to_z, of_z, ltb-true, le-ltb, lt-ltb, eq-eqb, ne_eqb}
use native.Mathlib.Decide.{dec_lt}
use lib.Signed.{mag, shr_z, mag_shr, nat_abs-le}
use mir.ValLaws.{to_z-of_z, of_z-to_z, to_z-Fits}
use Rattle.faults.specs.Numbers.{mod_by_zero, bad_shift}
use Rattle.int64.proofs.sign.Laws.{one_shifted}
use Rattle.int64.proofs.exact.Laws.{by-positive, sign-number, sign_fits}
use Rattle.int64.specs.Int as Int
use Rattle.int64.specs.Int.{Outcome, number, fault, checked, exact, bitwise, shifted, floor}
use Rattle.int64.specs.Exact.{in_range}
use Rattle.int64.specs.Patterns.{bits_of, fitted}
use Rattle.int64.specs.Sign.{negative, with_sign}

-- ---- exact results

-- the answer made of the test and the pattern
pub checked-exact : (z : ℤ) → checked (in_range z) (to_z w64 (fitted z)) ≡ exact z
unfolding exact fitted checked in_range
checked-exact z = go (in_range z) refl
  where
    go : (b : Bool) → in_range z ≡ b → checked b (to_z w64 (cond b (of_z w64 z) 0)) ≡ checked b z
    go true e = ap number (to_z-of_z w64 z (record { sfits = ltb-true (mag z) (2 ^ 63) e }))
    go false e = refl

pub exact-by : (z : ℤ) {o : Outcome} {t : Bool} {u : ℕ} → o ≡ checked t (to_z w64 u) → t ≡ in_range z → u ≡ fitted z → o ≡ exact z
exact-by z e f g = e ∙ ap₂ (λ (b : Bool) (n : ℕ). checked b (to_z w64 n)) f g ∙ checked-exact z

-- ---- the operator on bits

pub bits-by : (f : ℕ → ℕ → ℕ) (p q : ℕ) → Fits w64 p → Fits w64 q → number (to_z w64 (f p q)) ≡ bitwise f (to_z w64 p) (to_z w64 q)
unfolding bitwise
bits-by f p q h k = sym (ap₂ (λ (m n : ℕ). number (to_z w64 (f m n))) (of_z-to_z w64 p h) (of_z-to_z w64 q k))

-- ---- shifts

pub shift-yes : (q : ℕ) (f : ℕ → Outcome) → q < 64 → shifted (to_z w64 q) f ≡ f q
shift-yes q f h = rw (lt-ltb q (2 ^ 63) (omega arith), lt-ltb q 64 h)

pub shift-no : (q : ℕ) (f : ℕ → Outcome) → 64 ≤ q → fault bad_shift ≡ shifted (to_z w64 q) f
shift-no q f h = elim (dec_lt q (2 ^ 63)) [
  | yes l ↦ sym (rw (lt-ltb q (2 ^ 63) l, le-ltb q 64 h))
  | no g ↦ sym (rw (le-ltb q (2 ^ 63) (omega arith)))
]

pub floor-is : (z : ℤ) (d : ℕ) → shr_z z d ≡ floor z d
unfolding floor
floor-is (pos n) d = refl
floor-is (negsuc n) d = refl

pub shl-no : (p q : ℕ) → 64 ≤ q → fault bad_shift ≡ Int.shl (to_z w64 p) (to_z w64 q)
unfolding Int.shl
shl-no p q h = shift-no q _ h

pub shr-no : (p q : ℕ) → 64 ≤ q → fault bad_shift ≡ Int.shr (to_z w64 p) (to_z w64 q)
unfolding Int.shr
shr-no p q h = shift-no q _ h

pub shl-yes : (p q : ℕ) {o : Outcome} {t s : Bool} {u x : ℕ} → o ≡ checked t (to_z w64 u) → t ≡ in_range (with_sign s (x * (1 * 2 ^ q % 2 ^ 64))) → u ≡ fitted (with_sign s (x * (1 * 2 ^ q % 2 ^ 64)))
    → s ≡ negative (to_z w64 p) → x ≡ nat_abs (to_z w64 p) → q < 64 → o ≡ Int.shl (to_z w64 p) (to_z w64 q)
unfolding Int.shl
shl-yes p q {s = s} {x = x} e f g a b h =
    let z : with_sign s (x * (1 * 2 ^ q % 2 ^ 64)) ≡ to_z w64 p *ℤ pos (2 ^ q) = rw (a, b, one_shifted q h) (sym (by-positive (to_z w64 p) (2 ^ q))) in
    exact-by (to_z w64 p *ℤ pos (2 ^ q)) e (f ∙ ap in_range z) (g ∙ ap fitted z) ∙ sym (shift-yes q _ h)

pub shr-yes : (p q r : ℕ) (n : ℤ) → r ≡ of_z w64 (to_z w64 (of_z w64 (shr_z (to_z w64 (of_z w64 n)) (2 ^ q)))) → n ≡ to_z w64 p → Fits w64 p → q < 64 → number (to_z w64 r) ≡ Int.shr (to_z w64 p) (to_z w64 q)
unfolding Int.shr
shr-yes p q r n e d f h =
    let z = to_z w64 p in
    let s : SFits w64 z = to_z-Fits w64 p f in
    let b : to_z w64 (of_z w64 n) ≡ z = ap (λ (m : ℤ). to_z w64 (of_z w64 m)) d ∙ to_z-of_z w64 z s in
    let t : SFits w64 (shr_z z (2 ^ q)) = record { sfits = lt_of_le_of_lt (mag_shr z (2 ^ q)) s.sfits } in
    let back : to_z w64 (of_z w64 (shr_z z (2 ^ q))) ≡ shr_z z (2 ^ q) = to_z-of_z w64 (shr_z z (2 ^ q)) t in
    ap (λ (m : ℕ). number (to_z w64 m)) (e ∙ ap (λ (m : ℤ). of_z w64 (to_z w64 (of_z w64 (shr_z m (2 ^ q))))) b ∙ ap (of_z w64) back) ∙ ap number (back ∙ floor-is z (2 ^ q)) ∙ sym (shift-yes q _ h)

-- ---- remainders

pub rem-no : (p q y : ℕ) → y ≡ nat_abs (to_z w64 q) → y ≡ 0 → fault mod_by_zero ≡ Int.rem (to_z w64 p) (to_z w64 q)
unfolding Int.rem
rem-no p q y e z = sym (rw (eq-eqb (nat_abs (to_z w64 q)) 0 (sym e ∙ z)))

pub rem-yes : (p q r : ℕ) {s : Bool} {x y : ℕ} → r ≡ bits_of s (x % y) → s ≡ negative (to_z w64 p) → x ≡ nat_abs (to_z w64 p) → y ≡ nat_abs (to_z w64 q) → (y ≡ 0 → ⊥) → Fits w64 q
    → number (to_z w64 r) ≡ Int.rem (to_z w64 p) (to_z w64 q)
unfolding Int.rem Int.remainder
rem-yes p q r {s} {x} {y} e a b c n f =
    let some : 0 < y = omega arith in
    let small : x % y < 2 ^ 63 = omega (arith, mod-lt x some, nat_abs-le (to_z w64 q) {H = 2 ^ 63} (to_z-Fits w64 q f).sfits) in
    let z : to_z w64 r ≡ with_sign s (x % y) = ap (to_z w64) e ∙ sign-number s (x % y) (sign_fits s (x % y) (omega (arith, least s))) in
    rw (ne_eqb (nat_abs (to_z w64 q)) 0 (λ d. n (c ∙ d))) (ap number (z ∙ rw (a, b, c)))
  where
    least : (s : Bool) → 2 ^ 63 - 1 ≤ cond s (2 ^ 63) (2 ^ 63 - 1)
    least true = omega arith
    least false = omega arith

pub ruleset answers = (exact-by, bits-by, shl-no, shr-no, shl-yes, shr-yes, rem-no, rem-yes)
