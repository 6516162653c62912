-- What the kit reads from a pattern is what `read` reads: `real` takes a float of the kit's to whole steps of 2^-1074, and loses nothing (`Exact`).
use mathlib.Core.Path.{◌≡◌, refl, sym, ap, ◌∙◌, subst}
use mathlib.Core.Bool.{Bool, true, false, not, cond}
use Prim.Native.Nat.{ℕ, zero, suc, ◌+◌, ◌*◌, ◌/◌, ◌%◌, ◌^◌, ◌<◌, ◌≤◌}
use native.Mathlib.Nat.{mul-div_cancel, mul-one}
use native.Mathlib.Decide.{dec_lt}
use native.Mathlib.Omega.{arith}
use lib.Dec.{T, ltb, eqb}
use borrow.Author.Tests.{le-ltb, lt-ltb, ltb-true, ltb-false, eq-eqb, ne_eqb, eqb-false}
use lib.Ieee as Ieee
use lib.Ieee.{Float, binary64, up, down, odd, of_bits, of_fields, to_bits}
use lib.Ieee.Bits.{to_bits-of_bits, nan_bits_is, nan_bits_above}
use lib.Ieee.Exact.{HasValue, odd_sign}
use lib.Ieee.Fits.{down_pos}
use Rattle.float.specs.Bits.{Real, nan, inf, fin, sign, rest, infinity, is_nan, is_finite, scaled, units, read}

abbrev pub real : Float → Real
real Ieee.nan = nan
real (Ieee.inf s) = inf s
real (Ieee.fin s m e) = fin s (m * up e * 2 ^ 1074 / down e)

-- the number is a whole number of steps
abbrev pub Exact : Float → Type 0
Exact Ieee.nan = Unit {0}
Exact (Ieee.inf s) = Unit {0}
Exact (Ieee.fin s m e) = m * up e * 2 ^ 1074 ≡ m * up e * 2 ^ 1074 / down e * down e

-- ---- a float of a known value

pub value-real : (x : Float) (s : Bool) (a : ℕ) → HasValue x s a (2 ^ 1074) → (real x ≡ fin s a) × Exact x
value-real Ieee.nan s a h = absurd h
value-real (Ieee.inf t) s a h = absurd h
value-real (Ieee.fin t m e) s a h =
    let q : m * up e * 2 ^ 1074 / down e ≡ a = ap (λ (x : ℕ). x / down e) h.1 ∙ mul-div_cancel a (down_pos e) in
    ((λ i. fin (h.0 i) (q i)), h.1 ∙ ap (λ (x : ℕ). x * down e) (sym q))

-- ---- by the fields of a pattern

abbrev Good : Float → Real → Type 0
Good x r = (real x ≡ r) × Exact x

picked : (b c s : Bool) (v : Float) (r : Real) → Good v r → Good (cond b (cond c (Ieee.inf s) Ieee.nan) v) (cond b (cond c (inf s) nan) r)
picked true true s v r g = (refl, tt)
picked true false s v r g = (refl, tt)
picked false c s v r g = g

fields : (s : Bool) (x t : ℕ) → Good (of_fields binary64 s x t) (cond (eqb x 2047) (cond (eqb t 0) (inf s) nan) (fin s (scaled x t)))
unfolding of_fields
fields s zero t = value-real (odd 53 s t 0 1074) s t (subst (λ (a : ℕ). HasValue (odd 53 s t 0 1074) s a (2 ^ 1074)) (mul-one t) (odd_sign 53 s t 0 1074))
fields s (suc x) t = picked (eqb (suc x) 2047) (eqb t 0) s _ _ (value-real (odd 53 s (2 ^ 52 + t) x 1074) s _ (odd_sign 53 s (2 ^ 52 + t) x 1074))

-- the two ways to test a pattern of no sign: against infinity's, and by its fields
tests : (s : Bool) (q : ℕ) (r : Real) → q < 2 ^ 63
    → cond (ltb infinity q) nan (cond (eqb q infinity) (inf s) r) ≡ cond (eqb (q / 2 ^ 52) 2047) (cond (eqb (q % 2 ^ 52) 0) (inf s) nan) r
tests s q r h =
    elim (dec_lt infinity q) [
      | yes l ↦ rw (lt-ltb infinity q l, eq-eqb (q / 2 ^ 52) 2047 (omega arith), ne_eqb (q % 2 ^ 52) 0 (λ e. omega arith))
      | no n ↦
          elim (dec_lt q infinity) [
            | yes l ↦ rw (le-ltb infinity q (omega arith), ne_eqb q infinity (λ e. omega arith), ne_eqb (q / 2 ^ 52) 2047 (λ e. omega arith))
            | no m ↦ rw (le-ltb infinity q (omega arith), eq-eqb q infinity (omega arith), eq-eqb (q / 2 ^ 52) 2047 (omega arith), eq-eqb (q % 2 ^ 52) 0 (omega arith))
          ]
    ]

pub read_is : (p : ℕ) → Good (of_bits binary64 p) (read p)
unfolding of_bits read
read_is p =
    let q = rest p in
    let e : p % 2 ^ 52 ≡ q % 2 ^ 52 = omega arith in
    let g = fields (sign p) (q / 2 ^ 52) (p % 2 ^ 52) in
    let h : read p ≡ cond (eqb (q / 2 ^ 52) 2047) (cond (eqb (p % 2 ^ 52) 0) (inf (sign p)) nan) (fin (sign p) (scaled (q / 2 ^ 52) (p % 2 ^ 52)))
    = rw e (tests (sign p) q (fin (sign p) (units q)) (omega arith)) in
    (g.0 ∙ sym h, g.1)

-- ---- a pattern that is no NaN's, read and written again

pub bits_back : (p : ℕ) → p < 2 ^ 64 → is_nan p ≡ false → to_bits binary64 (of_bits binary64 p) ≡ p
bits_back p h e = to_bits-of_bits binary64 p h (subst (λ (b : Bool). T (not b)) (sym (sym (nan_bits_is binary64 p) ∙ nan_bits_above binary64 p ∙ e)) tt)

-- ---- finite: a pattern reads as a number of steps exactly where `is_finite` holds

pub finite-reads : (p : ℕ) → is_finite p ≡ true → read p ≡ fin (sign p) (units (rest p))
unfolding read
finite-reads p h =
    let l : rest p < infinity = ltb-true (rest p) infinity h in
    rw (le-ltb infinity (rest p) (omega arith), ne_eqb (rest p) infinity (λ e. omega arith))

pub others-read : (p : ℕ) (s : Bool) (n : ℕ) → is_finite p ≡ false → read p ≡ fin s n → ⊥
unfolding read
others-read p s n h = go (is_nan p) (eqb (rest p) infinity) refl refl
  where
    go : (a b : Bool) → is_nan p ≡ a → eqb (rest p) infinity ≡ b → cond a nan (cond b (inf (sign p)) (fin (sign p) (units (rest p)))) ≡ fin s n → ⊥
    go true b i j e = let z : ◌≡◌ {A = ℕ} 0 1 = cc in omega arith
    go false true i j e = let z : ◌≡◌ {A = ℕ} 0 1 = cc in omega arith
    go false false i j e =
        let l : infinity ≤ rest p = ltb-false (rest p) infinity h in
        let m : rest p ≤ infinity = ltb-false infinity (rest p) i in
        eqb-false (rest p) infinity j (omega arith)
